-- What a table of marks for a session may hold, and what the session admits.
pub mod Inside
pub mod Admission
