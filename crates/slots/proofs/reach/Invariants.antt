-- The loop's invariant in `slots::reach`: no j passed is what is looked for. Assumes nothing.
use Prim.Native.Nat.{suc, ◌≤◌, ◌-◌}
use Rattle.slots.proofs.Loops.{Passed, full}
use Rattle.slots.proofs.reach.Given as goal

abbrev pub invariant-loop-j : goal.invariant-loop-j
invariant-loop-j l = (l.from ≤ l.j) × Passed (full l.near l.slots l.from) l.j

abbrev pub decreases-loop-j : goal.decreases-loop-j
decreases-loop-j l = suc l.slots - l.j
