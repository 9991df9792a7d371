-- The laws of a load: its sections written, its marks found.
pub mod Finished
pub mod Sections
pub mod Solving
