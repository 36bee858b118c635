-- `Parts::write_marks` meets its contract, by the invariant of its loop. Assumes nothing.
use mathlib.Core.Path.{ap, ◌∙◌}
use native.Mathlib.Omega.{arith}
use borrow.Author.Rules.{rules}
use Rattle.image.specs.Layout.{mark_byte}
use Rattle.image.proofs.Seats.{marked_at}
use Rattle.image.proofs.Stores.{stored_none, stored_more, stored_all}
use Rattle.image.proofs.Parts.write_marks.Goals as goal

pub loop-q-init : goal.loop-q-init
loop-q-init c = stored_none _ _ _

pub mark-requires : goal.mark-requires
mark-requires c =
    omega (arith, c.requires.3 c.loop-q.q (omega arith))

pub loop-q-preserved : goal.loop-q-preserved
loop-q-preserved c =
    let stored = c.mark.ensures ∙ ap (mark_byte _) (marked_at _ _ c.seated_marks-marks.ensures c.loop-q.q (search rules)) in
    stored_more _ _ _ _ _ _ (search rules) (search rules) c.loop-q.invariant stored

pub returns : goal.returns
returns c = stored_all _ _ _ _ _ _ (search rules) (search rules) c.loop-q.invariant
