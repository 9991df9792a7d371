-- The laws of one bit, of a word as a set, of comparisons of words, of counts, and of several words together.
pub mod Bits
pub mod Words
pub mod Tests
pub mod Counts
pub mod Gathers
