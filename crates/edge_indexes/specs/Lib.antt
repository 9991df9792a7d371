-- The indexes of the edges.
pub mod Indexes
