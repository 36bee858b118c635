-- The words of a line: what must be believed, and the laws of it. Assumes nothing.
pub mod Fields
pub mod Laws
pub mod Reading
