-- The laws by which the tests say whether a memory is in layout.
pub mod Tested
