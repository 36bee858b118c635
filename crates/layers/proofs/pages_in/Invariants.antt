-- The loop's invariant in `layers::pages_in`: n counts the pages passed. Assumes nothing.
use Rattle.layers.proofs.Passes.{Counted}
use Rattle.layers.proofs.pages_in.Given as goal

abbrev pub invariant-loop-x : goal.invariant-loop-x
invariant-loop-x l = Counted l.layer l.j l.x-index l.n
