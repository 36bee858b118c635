-- `selection::kept` meets its contract, by the invariant of its loop. Assumes nothing.
use mathlib.Core.Path.{◌∙◌}
use borrow.Author.Rules.{rules}
use Rattle.selection.proofs.Loops.{marks_none, marks_turn, highest_in, highest_out}
use Rattle.selection.proofs.kept.Goals as goal
use Rattle.selection.proofs.kept.Goals.{then-set-q, else-set-q}

pub loop-q-init : goal.loop-q-init
loop-q-init c = marks_none _

pub loop-q-preserved : goal.loop-q-preserved
loop-q-preserved c =
    marks_turn _ _ _ c.loop-q.invariant _ (search rules)
    (elim c.if-set-q.branch [
      | then-set-q w ↦ w.out-is ∙ highest_in _ _ _ _ _ w.if-set-q.true _ w.above_of.ensures
      | else-set-q w ↦ w.out-is ∙ highest_out _ _ _ _ _ w.if-set-q.false
    ])
