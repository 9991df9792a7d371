-- The laws of a load's rules.
pub mod Given
