-- The questions about a run. Assumes nothing.
pub mod Calls
