-- The loop's invariant in `slots::find`: `left` tells the first of the slots passed that holds the page. Assumes nothing.
use mathlib.Core.Path.{◌≡◌}
use Prim.Native.Nat.{◌+◌}
use Rattle.slots.proofs.Loops.{Left}
use Rattle.slots.proofs.find.Given as goal

abbrev pub invariant-loop-entry : goal.invariant-loop-entry
invariant-loop-entry l = Left l.held l.page l.entry-index l.left × (l.rest + l.entry-index ≡ 64)
