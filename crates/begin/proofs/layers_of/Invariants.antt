-- The loop's invariant in `begin::layers_of`: after i turns each entry is its page's place among the first i. Assumes nothing.
use Rattle.begin.proofs.Places.{Placed}
use Rattle.begin.proofs.layers_of.Given as goal

abbrev pub invariant-loop-i : goal.invariant-loop-i
invariant-loop-i l = Placed l.list l.layer l.i
