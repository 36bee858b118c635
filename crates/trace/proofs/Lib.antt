-- What is proved of trace files. Assumes nothing.
--     Reading    the reader's refusals, and the requests one at a time
--     Writing    the writer's refusals, and what it writes
--     Theorems   written and read back, read and written back
pub mod Reading
pub mod Theorems
pub mod Writing
