-- The loop's invariant in `slots::by_slot`: the table is that of the slots passed. Assumes nothing.
use mathlib.Core.Path.{◌≡◌}
use Rattle.slots.specs.Slots.{entries_of}
use Rattle.slots.proofs.by_slot.Given as goal

abbrev pub invariant-loop-s : goal.invariant-loop-s
invariant-loop-s g l = l.entries ≡ entries_of l.table l.held l.s l.fn.none
