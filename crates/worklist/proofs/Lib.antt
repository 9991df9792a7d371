-- The laws of the nodes that wait: one put in or taken out, the lowest, predecessors called in, those with a pair.
pub mod CalledIn
pub mod Occupied
pub mod Waits
