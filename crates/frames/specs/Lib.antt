-- The frames of a run's slots. What must be believed:
--     Frames      Fill and Look, with their refusals
-- What is proved of it:
--     Theorems    which bytes a Fill changes, and what Look shows after it
-- How the code comes to it:
--     Laws        the refusals in the code's order, and each answer of the code
-- Assumes nothing.
pub mod Frames
pub mod Laws
pub mod Theorems
