-- The loop's invariant in `timed::checked_misses`: what is left of the requests makes of the run in hand what all make of the
-- start. Assumes nothing.
use Rattle.trace.specs.Reading.{asked}
use Rattle.timed.specs.Timed.{Going}
use Rattle.timed.proofs.checked_misses.Given as goal

abbrev pub invariant-loop-i : goal.invariant-loop-i
invariant-loop-i l = Going l.initial.run (asked l.file l.offset l.requests) l.requests l.run l.i
