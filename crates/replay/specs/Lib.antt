-- A replay: what its arrays and counts stand for. Assumes nothing.
--     Replay   the run that they are, and what a turn comes to
--     Told     what is told of the requests
--     Laws     a turn is a request; a loop of turns, and what it tells
pub mod Replay
pub mod Told
pub mod Laws
