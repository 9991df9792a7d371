-- What a call that edits leaves.
pub mod Called
