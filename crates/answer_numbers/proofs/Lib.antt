-- The laws of an answer as one number, and that the numbers of the calls fit.
pub mod Fitted
pub mod Orders
pub mod Unpacked
