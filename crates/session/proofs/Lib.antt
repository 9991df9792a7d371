-- The laws of the session's definitions.
pub mod Tables
pub mod Valid
pub mod Admission
pub mod Reached
pub mod Image
pub mod Decoded
pub mod Widths
pub mod Stores
