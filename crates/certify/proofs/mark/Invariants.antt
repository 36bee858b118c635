-- The loop's invariant in `certify::mark`: the slots passed hold different pages below N, and these are marked. Assumes nothing.
use Rattle.certify.proofs.Marks.{Marked}
use Rattle.certify.proofs.mark.Given as goal

abbrev pub invariant-loop-entry : goal.invariant-loop-entry
invariant-loop-entry l = Marked l.pages l.held l.marks l.entry-index
