-- The laws of the change list and of the depth-first order.
pub mod Lists
pub mod Ledgers
pub mod Placing
pub mod Orders
