-- What is proved of a run, and what the proofs share. Assumes nothing.
--     Theorems        the theorems about the calls
--     StoredTheorems  the theorems about stored runs
--     SoundLaws       the record and the test of a sound run agree
--     RequestLaws     the run after a request is sound
--     Serving         a request: the step, then the counts
--     Testing         the soundness test: limits, counts, tables
--     Requesting      the refusals of a request
--     Asking          the questions
--     Storing         the image reader and writer
--     Refusals        different refusals are different events
pub mod Refusals
pub mod Asking
pub mod Requesting
pub mod RequestLaws
pub mod Serving
pub mod SoundLaws
pub mod StoredTheorems
pub mod Storing
pub mod Testing
pub mod Theorems
