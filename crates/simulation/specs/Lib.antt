-- Greatest simulations over decidable sets.
pub mod Sets
pub mod System
pub mod Pattern
pub mod Search
pub mod Ordered
