-- What the parts of a session hold.
pub mod Parts
pub mod Admitted
