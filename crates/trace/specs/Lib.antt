-- Trace files: read Layout; the other files are the words of their theorems, and how the code and its callers speak of them.
-- Assumes nothing.
pub mod Layout
pub mod Reading
pub mod Writing
pub mod Theorems
