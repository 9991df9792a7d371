-- The depth-first walk as the code has it.
pub mod Walks
