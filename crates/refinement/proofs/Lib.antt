-- The laws of support, of one look at a node and of refinement; what it is of a trigger and a graph.
pub mod Support
pub mod Settling
pub mod Turns
pub mod Systems
