-- The loop's invariant in `slots::lows`: `low` is the least key of the layers passed, and the table has their entries. Assumes
-- nothing.
use mathlib.Core.Path.{◌≡◌}
use Rattle.paging.specs.Sets.{table}
use Rattle.slots.specs.Slots.{least_key}
use Rattle.slots.proofs.Running.{least_before}
use Rattle.slots.proofs.lows.Given as goal

abbrev pub invariant-loop-j : goal.invariant-loop-j
invariant-loop-j l = (l.low ≡ least_before l.near l.keys l.k l.j) × (l.lows ≡ table 65 l.j 0 (λ i. least_key l.near l.keys i l.k))
