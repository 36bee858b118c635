-- The refusals and the tables of a start. Read Limits and Begin; what callers want to know of their words stands in the others and
-- in proofs/. Assumes nothing.
pub mod Limits
pub mod Begin
pub mod Refusals
pub mod LimitLaws
pub mod Laws
