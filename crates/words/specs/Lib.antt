-- Numbers in bytes, low byte first: what must be believed, and the laws of it. Assumes nothing.
pub mod Words
pub mod Laws
