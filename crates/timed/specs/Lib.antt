-- What a benchmark times. Assumes nothing.
pub mod Timed
