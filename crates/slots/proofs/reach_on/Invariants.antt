-- The loop's invariant in `slots::reach_on`: no j passed is what is looked for, and n is the count up to j. Assumes nothing.
use mathlib.Core.Path.{◌≡◌}
use Prim.Native.Nat.{suc, ◌≤◌, ◌-◌}
use Rattle.slots.specs.Slots.{near_to}
use Rattle.slots.proofs.Loops.{Passed, full}
use Rattle.slots.proofs.reach_on.Given as goal

abbrev pub invariant-loop-j : goal.invariant-loop-j
invariant-loop-j l = (l.from ≤ l.j) × Passed (full l.near l.slots l.from) l.j × (l.n ≡ near_to l.near l.slots l.j)

abbrev pub decreases-loop-j : goal.decreases-loop-j
decreases-loop-j l = suc l.slots - l.j
