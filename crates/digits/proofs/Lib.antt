-- The laws of fields kept by a mask, of the bytes of digits as sums, and of four digits written at a time.
pub mod Fields
pub mod Sums
pub mod Fours
