-- `timed::checked_misses` meets its contract, by the invariant of its loop. Assumes nothing.
use mathlib.Core.Path.{ap}
use borrow.Author.Rules.{rules}
use Rattle.run.specs.declared.Run.{Run}
use Rattle.timed.specs.Timed.{going_first, going_next, going_last}
use Rattle.timed.proofs.checked_misses.Goals as goal

pub loop-i-init : goal.loop-i-init
loop-i-init c = going_first _ _ _ _

pub loop-i-preserved : goal.loop-i-preserved
loop-i-preserved c =
    going_next _ _ _ _ _ _ c.loop-i.invariant _ _ (search rules)
    c.request_at-page.ensures (rw c.from.ensures at c.request-served.ensures.answer)

pub returns : goal.returns
returns c = ap (λ (r : Run). r.counts.misses) (going_last _ _ _ _ _ _ c.loop-i.invariant (search rules))
