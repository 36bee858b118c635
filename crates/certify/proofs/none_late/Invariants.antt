-- The loop's invariant in `certify::none_late`: `all` says whether each page passed is in time. Assumes nothing.
use mathlib.Core.Path.{◌≡◌}
use Rattle.paging.specs.Sets.{each}
use Rattle.certify.proofs.Passes.{timely}
use Rattle.certify.proofs.none_late.Given as goal

abbrev pub invariant-loop-q : goal.invariant-loop-q
invariant-loop-q l = l.all ≡ each l.q (timely l.marks l.layer l.keys l.bars)
