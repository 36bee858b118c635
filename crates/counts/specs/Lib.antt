-- The counts of a run. Read Counts; Laws has what callers use. Assumes nothing.
--     Counts   the clauses on them, what a request adds, the refusals 8 and 9
--     Laws     the same as facts
pub mod Counts
pub mod Laws
