-- The layout of a stored run: what must be believed. The laws of it stand in proofs/. Assumes nothing.
pub mod Layout
