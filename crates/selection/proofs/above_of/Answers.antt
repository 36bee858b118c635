-- `selection::above_of` meets its contract, by the invariant of its loop. Assumes nothing.
use mathlib.Core.Path.{refl, ◌∙◌}
use native.Mathlib.Omega.{arith}
use borrow.Author.Tests.{lt-ltb, le-ltb}
use Rattle.paging.specs.Sets.{count}
use Rattle.paging.specs.Tests.{and_in}
use Rattle.selection.proofs.Loops.{count_in, count_out, and_left_out, and_right_out}
use Rattle.selection.proofs.above_of.Goals as goal
use Rattle.selection.proofs.above_of.Goals.{then-set-r+then-keys-q, else-set-r, else-set-r-via-then-set-r+else-keys-q, else-set-r-via-else-set-r}

pub loop-r-init : goal.loop-r-init
unfolding count
loop-r-init c = (omega arith, refl)

pub loop-r-preserved : goal.loop-r-preserved
loop-r-preserved c =
    elim c.if-set-r.branch [
      | then-set-r+then-keys-q w ↦ (omega arith, w.n-is ∙ count_in _ _ _ c.loop-r.invariant.1 (and_in _ _ w.if-set-r.true (lt-ltb _ _ w.if-keys-q.true)))
      | else-set-r w ↦ (
        omega arith,
        w.n-is ∙ count_out _ _ _ c.loop-r.invariant.1
            (elim w.else-set-r.branch [
              | else-set-r-via-then-set-r+else-keys-q w' ↦ and_right_out _ _ w'.if-set-r.true (le-ltb _ _ w'.if-keys-q.false)
              | else-set-r-via-else-set-r w' ↦ and_left_out _ _ w'.if-set-r.false
            ]),
      )
    ]
