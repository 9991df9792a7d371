-- Sets of small numbers in a word.
pub mod Word
