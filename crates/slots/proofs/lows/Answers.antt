-- `slots::lows` meets its contract, by the invariant of its loop. Assumes nothing.
use borrow.Author.Rules.{rules}
use Rattle.paging.specs.Tables.{fill_none, fill_more}
use Rattle.slots.proofs.Running.{least_none, least_passed, least_here}
use Rattle.slots.proofs.lows.Goals as goal

pub loop-j-init : goal.loop-j-init
loop-j-init c = (least_none _ _ _, fill_none _ _ _)

pub loop-j-preserved : goal.loop-j-preserved
loop-j-preserved c =
    let here = least_here _ _ _ _ _ _ _ (search rules) c.loop-j.invariant.0 c.leasts-least.ensures c.min-low.ensures in
    (least_passed _ _ _ _ _ here, fill_more _ _ _ _ _ _ (search rules) c.loop-j.invariant.1 here)
