-- What the proofs share. Assumes nothing.
--     Apart   the answer of a file made of its parts
pub mod Apart
