-- The loop's invariant in `slots::lowest`: `least` is the least key of the slots passed. Assumes nothing.
use mathlib.Core.Path.{◌≡◌}
use Rattle.slots.specs.Slots.{least_key}
use Rattle.slots.proofs.lowest.Given as goal

abbrev pub invariant-loop-s : goal.invariant-loop-s
invariant-loop-s l = l.least ≡ least_key l.near l.keys l.j l.s
