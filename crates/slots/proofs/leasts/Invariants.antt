-- The loop's invariant in `slots::leasts`: the least keys are those of the slots passed. Assumes nothing.
use mathlib.Core.Path.{◌≡◌}
use Rattle.slots.specs.Slots.{leasts_of}
use Rattle.slots.proofs.leasts.Given as goal

abbrev pub invariant-loop-s : goal.invariant-loop-s
invariant-loop-s l = l.least ≡ leasts_of l.near l.keys l.s
