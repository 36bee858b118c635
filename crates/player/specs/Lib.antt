-- What the trace program prints: what must be believed, and the laws of it. Assumes nothing.
pub mod Answer
pub mod Laws
