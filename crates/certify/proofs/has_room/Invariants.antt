-- The loop's invariant in `certify::has_room`: `room` says whether there is room in each layer passed. Assumes nothing.
use mathlib.Core.Path.{◌≡◌}
use Rattle.paging.specs.Sets.{each}
use Rattle.certify.proofs.Passes.{roomy}
use Rattle.certify.proofs.has_room.Given as goal

abbrev pub invariant-loop-j : goal.invariant-loop-j
invariant-loop-j l = l.room ≡ each l.j (roomy l.counts)
