-- What a deletion leaves.
pub mod Counting
pub mod Deleted
pub mod Deleting
pub mod SteadyNodes
