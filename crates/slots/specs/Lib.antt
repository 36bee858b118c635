-- The slots as code keeps them, in the words of `paging`. Assumes nothing.
pub mod Slots
pub mod Laws
pub mod Held
