-- A run. What must be believed, each definition under its sentence of document 01:
--     Numbers         the limits, the blank run, the parts of a run
--     Cached          the cached pages, their slots, the selection, the victim
--     Sound           a sound run, as a record and as a test
--     Start           the answer of a start
--     Request         the answer of a request and of a trial
--     Questions       the answers of layer, certain and the plain selection
--     History         the runs that come from a start by served requests
--     Stored          the run in an image, the answers of the image reader and writer
-- The words of its theorems, which stand in proofs/:
--     Theorems        what a hit and a miss are
--     StoredTheorems  a run whose numbers fit their types
-- What is proved of it here:
--     StartLaws       a started run is sound
-- How the code comes to it:
--     Starting        a start: first the list, then the priorities
--     Serving         the keys that a request is given
--     Testing         the soundness test: limits, counts, tables
--     Requesting      the refusals of a request
-- Assumes nothing.
pub mod Numbers
pub mod Cached
pub mod Sound
pub mod Start
pub mod Request
pub mod Questions
pub mod Stored
pub mod StartLaws
pub mod Starting
pub mod Serving
pub mod Testing
pub mod History
pub mod Theorems
pub mod StoredTheorems
pub mod Requesting
