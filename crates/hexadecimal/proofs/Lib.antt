-- What the functions' proofs share. Assumes nothing.
pub mod Steps
