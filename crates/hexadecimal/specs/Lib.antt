-- Bytes in hexadecimal, and text put in where there is room: what must be believed, and the laws of it. Assumes nothing.
pub mod Room
pub mod Hex
pub mod Laws
