-- The fact over all rows.
pub mod Predicted
pub mod Full
pub mod Worked
pub mod Reopened
