-- The loop's invariant in `slots::counts`: n is the sum of the layers passed, and the table has their entries. Assumes nothing.
use mathlib.Core.Path.{◌≡◌}
use Rattle.paging.specs.Sets.{table}
use Rattle.slots.specs.Slots.{near_to}
use Rattle.slots.proofs.Running.{sum_before}
use Rattle.slots.proofs.counts.Given as goal

abbrev pub invariant-loop-j : goal.invariant-loop-j
invariant-loop-j l = (l.n ≡ sum_before l.near l.k l.j) × (l.counts ≡ table 65 l.j 0 (near_to l.near l.k))
