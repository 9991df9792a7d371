-- What the steps of a load leave.
pub mod Solved
