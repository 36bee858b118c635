-- The proved cases of document 01. Assumes nothing.
pub mod Worked
