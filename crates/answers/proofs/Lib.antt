-- What the proofs of this crate and of those above it share. Assumes nothing.
pub mod Same
