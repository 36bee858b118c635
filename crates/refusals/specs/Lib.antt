-- The numbers of refusals: what must be believed, and the laws of it. Assumes nothing.
pub mod Numbers
pub mod Laws
