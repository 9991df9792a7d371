-- Laws of the ascending list of edges.
pub mod Places
pub mod Moves
pub mod Stored
