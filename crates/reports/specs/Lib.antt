-- What an answer tells of the marks that a memory holds.
pub mod Marks
