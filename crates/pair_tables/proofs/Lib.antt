-- The laws of tables of pairs: filled, changed word by word, counted.
pub mod Admitting
pub mod Tabling
pub mod Zeros
