-- What a line asks. Assumes nothing.
pub mod Asked
pub mod Laws
