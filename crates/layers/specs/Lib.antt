-- The layer table as code keeps it, in the words of `paging`. Assumes nothing.
pub mod Asked
pub mod Seen
pub mod Laws
