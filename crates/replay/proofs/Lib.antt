-- What holds of telling. Assumes nothing.
--     Apart   telling, by what is told
pub mod Apart
