-- What a line of input says, how answers are written, and what the machine makes of a line.
pub mod Digits
pub mod Frames
pub mod Lines
pub mod Outputs
pub mod Machine
pub mod Moments
pub mod Program
pub mod Blocks
