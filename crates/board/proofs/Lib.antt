pub mod Bits
pub mod Answers
