-- The soundness test of the tables. Read Tables; the other files say how it is made and prove that it is that.
--     Tables      document 01's clauses on the tables, as one test
--     Laws        the same as facts, for callers
--     Test        the words of the test that the code makes
--     ByLayer     the tables of the slots that it reads
--     Certified   its certificate says that the cached set is the selection
-- Assumes nothing.
pub mod Tables
pub mod Test
pub mod ByLayer
pub mod Laws
pub mod Certified
