-- What a report reads from a session.
pub mod Fired
pub mod Held
pub mod Reported
