-- The laws of the two indexes.
pub mod Firsts
pub mod Incoming
pub mod Ranges
