-- The board entry: its meaning, its laws and its theorems. Assumes nothing.
pub mod Board
pub mod Laws
pub mod Theorems
