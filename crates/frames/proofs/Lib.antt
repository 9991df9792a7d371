-- The laws of digits and frames.
pub mod Hex
pub mod Kinded
pub mod Wide
pub mod Written
pub mod Listed
pub mod Fronts
pub mod Numbers
pub mod Few
pub mod Kept
pub mod Played
pub mod Programs
pub mod Passing
pub mod Inputs
pub mod Samples
pub mod Takes
pub mod Reaches
