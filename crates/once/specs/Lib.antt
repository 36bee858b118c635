-- No second answer. Assumes nothing.
pub mod Once
pub mod Parts
