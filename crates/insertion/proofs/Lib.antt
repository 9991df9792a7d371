-- What an insertion leaves.
pub mod Inserted
pub mod Inserting
