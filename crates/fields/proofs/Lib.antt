-- What the functions' proofs share, and the laws of what was read. Assumes nothing.
pub mod Steps
pub mod Lists
pub mod Reading
