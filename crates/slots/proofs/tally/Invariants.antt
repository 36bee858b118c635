-- The loop's invariant in `slots::tally`: the sums are those of the slots passed. Assumes nothing.
use mathlib.Core.Path.{◌≡◌}
use Rattle.slots.specs.Slots.{tally_of}
use Rattle.slots.proofs.tally.Given as goal

abbrev pub invariant-loop-layer : goal.invariant-loop-layer
invariant-loop-layer l = l.sums ≡ tally_of l.near l.layer-index
