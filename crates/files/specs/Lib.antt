-- The questions about frames, files and images. Assumes nothing.
pub mod Files
