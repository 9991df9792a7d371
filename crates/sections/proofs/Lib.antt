-- The laws of a list filled from its front.
pub mod Fills
