-- `fields::write_more` meets its contract, by the invariant of its loop. Assumes nothing.
use borrow.Author.Rules.{rules}
use Rattle.fields.proofs.Lists.{listing_first, listing_next, listing_last}
use Rattle.fields.proofs.write_more.Goals as goal

pub loop-x-init : goal.loop-x-init
loop-x-init c = listing_first _ _ _

pub loop-x-preserved : goal.loop-x-preserved
loop-x-preserved c =
    listing_next
    _ _ _ _ _ _
    c.loop-x.invariant
    c.loop-x-test.true
    (search rules)
    c.write_word-next.ensures
    (rw c.from.ensures at c.write_number-next.ensures)

pub shape_of-out : goal.shape_of-out
shape_of-out c = c.loop-x.invariant.size

pub returns : goal.returns
returns c = listing_last _ _ _ _ _ _ c.loop-x.invariant c.loop-x-test.false
