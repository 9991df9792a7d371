-- Sets of states by their links.
pub mod Links
