-- The laws of the definitions in specs/.
pub mod Terms
pub mod Sets
pub mod System
pub mod Change
pub mod Loops
pub mod Pattern
pub mod Search
pub mod Ordered
pub mod Edges
pub mod Plain
pub mod Folds
pub mod Gains
