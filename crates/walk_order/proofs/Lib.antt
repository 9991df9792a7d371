-- The laws by which the walk has the depth-first order.
pub mod Walks
