-- The laws that insertion and deletion share.
pub mod Moved
pub mod Pairs
pub mod Refining
