-- What the steps of an edit leave.
pub mod Steps
