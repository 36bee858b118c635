-- `slots::by_slot` meets its contract, by the invariant of its loop. Assumes nothing.
use borrow.Author.Rules.{rules}
use Rattle.paging.specs.Tables.{fill_none}
use Rattle.slots.specs.Slots.{entries_of}
use Rattle.slots.proofs.Loops.{page_read, entries_next}
use Rattle.slots.proofs.by_slot.Goals as goal

pub loop-s-init : goal.loop-s-init
unfolding entries_of
loop-s-init g c = fill_none _ _ _

pub loop-s-preserved : goal.loop-s-preserved
loop-s-preserved g c =
    entries_next _ _ _ _ _ _ _ (search rules) c.from.ensures (page_read _ _ (c.requires.1 _ c.loop-s-test.true)) c.told-table c.index-list-from.is c.loop-s.invariant
