-- The rules of a question row by row, and what the answers are.
pub mod Asked
