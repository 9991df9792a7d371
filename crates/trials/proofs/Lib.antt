-- The laws of the trial set as the code finds it.
pub mod Lonely
pub mod Trying
