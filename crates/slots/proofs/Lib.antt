-- What the proofs share. Assumes nothing.
pub mod Loops
pub mod Running
