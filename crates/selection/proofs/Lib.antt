-- What the proofs of this crate share: a turn of each loop. Assumes nothing.
pub mod Loops
