-- The loop's invariant in `calls::gather`: the pages that are left, put behind those that are there, make the whole. Assumes
-- nothing.
use Rattle.calls.proofs.Steps.{Gathering}
use Rattle.calls.proofs.gather.Given as goal

abbrev pub invariant-loop-q : goal.invariant-loop-q
invariant-loop-q l = Gathering l.pages l.initial.list l.list l.n l.q
