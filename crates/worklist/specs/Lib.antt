-- The nodes that wait.
pub mod Waiting
