-- What refinement leaves.
pub mod Refining
