-- The change list and the depth-first order.
pub mod Changes
pub mod Ledger
pub mod Order
pub mod Placed
