-- `slots::reach` meets its contract, by the invariant of its loop. Assumes nothing.
use borrow.Author.Rules.{rules}
use Rattle.slots.proofs.Loops.{found_here, found_none, full_here}
use Rattle.slots.proofs.reach.Goals as goal

pub returns-then-j-slots : goal.returns-then-j-slots
returns-then-j-slots c = found_none _ _ _ (search rules) c.loop-j.invariant.1

pub returns : goal.returns
returns c =
    rw c.from-2.ensures
    (found_here _ _ _ (search rules) c.loop-j.invariant.1 (full_here _ _ _ _ _ c.loop-j.invariant.0 (rw c.from.ensures at c.count_to.ensures) (rw c.from-in-loop-j.ensures at c.if-count_to-from.true)))
