-- What the growth of a trial set computes.
pub mod Growth
