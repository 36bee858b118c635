-- `slots::counts` meets its contract, by the invariant of its loop. Assumes nothing.
use mathlib.Core.Path.{refl}
use native.Mathlib.Omega.{arith}
use borrow.Author.Rules.{rules}
use Rattle.paging.specs.Tables.{fill_none, fill_more}
use Rattle.slots.proofs.Running.{sum_none, sum_passed, sum_here, sum_most}
use Rattle.slots.proofs.counts.Goals as goal

pub loop-j-init : goal.loop-j-init
loop-j-init c = (sum_none _ _, fill_none _ _ _)

pub overflow_add-n : goal.overflow_add-n
overflow_add-n c =
    omega (arith, sum_most _ _ _ _ _ _ (omega (arith, c.from-k.ensures)) c.loop-j.invariant.0 c.tally-sums.ensures refl)

pub loop-j-preserved : goal.loop-j-preserved
loop-j-preserved c =
    let here = sum_here _ _ _ _ _ _ (search rules) c.loop-j.invariant.0 c.tally-sums.ensures refl in
    (sum_passed _ _ _ _ here, fill_more _ _ _ _ _ _ (search rules) c.loop-j.invariant.1 here)
