-- Which question a line is. Assumes nothing.
pub mod Kinds
