-- What the proofs of several functions share. Assumes nothing.
pub mod Passes
pub mod Marks
pub mod LayerBars
pub mod Together
