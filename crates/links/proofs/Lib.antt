-- The laws of sets of states by their links, of the table of callers, and of what is reached.
pub mod CallerTables
pub mod LinkSets
pub mod Reaching
