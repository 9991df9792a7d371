-- The laws of growth.
pub mod Spreading
pub mod Growing
