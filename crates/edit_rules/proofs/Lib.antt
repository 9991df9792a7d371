-- The rules of an edit row by row.
pub mod Ruled
