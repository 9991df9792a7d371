-- Trigger, graph and the session that holds them.
pub mod Limits
pub mod Trigger
pub mod Reached
pub mod Layout
pub mod Tests
pub mod Former
