-- The worked cases of 01 and 02, and saved sessions.
pub mod Cases
pub mod Saved
