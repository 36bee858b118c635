-- The loop's invariant in `slots::count_to`: n is the count of the slots passed. Assumes nothing.
use mathlib.Core.Path.{◌≡◌}
use Rattle.slots.specs.Slots.{near_to}
use Rattle.slots.proofs.count_to.Given as goal

abbrev pub invariant-loop-layer : goal.invariant-loop-layer
invariant-loop-layer l = l.n ≡ near_to l.near l.layer-index l.j
