-- `certify::bars` meets its contract, by the invariant of its loop. Assumes nothing.
use mathlib.Core.Logic.{inl, inr}
use mathlib.Core.Path.{sym, ◌∙◌}
use native.Mathlib.Omega.{arith}
use borrow.Author.Rules.{rules}
use Rattle.certify.proofs.LayerBars.{count_at, low_at, bars_none, bars_more, bars_all}
use Rattle.certify.proofs.bars.Goals as goal
use Rattle.certify.proofs.bars.Goals.{then-wide-j, else-wide-j}

pub loop-j-init : goal.loop-j-init
loop-j-init c near keys w = bars_none near keys _ _ (low_at near keys _ _ _ w _ (search rules))

pub loop-j-preserved : goal.loop-j-preserved
loop-j-preserved c near keys w =
    bars_more
    near
    keys
    _
    _
    _
    _
    _
    _
    _
    (omega arith)
    (omega (arith, c.loop-j.auto.j))
    (omega (arith, c.from-k.ensures))
    (c.wide.ensures.0 ∙ count_at near keys _ _ _ w _ (omega (arith, c.loop-j.auto.j)))
    (c.loop-j.invariant near keys w)
    (elim c.if-wide-j.branch [ then-wide-j v ↦ inl (v.if-wide-j.true, v.bar-is ∙ low_at near keys _ _ _ w _ (omega (arith, c.loop-j.auto.j))) | else-wide-j v ↦ inr (v.if-wide-j.false, v.bar-is) ])

pub returns : goal.returns
returns c near keys w =
    rw c.from-k.ensures at (bars_all near keys _ _ _ _ (omega (arith, c.from-k.ensures)) (omega arith) (c.loop-j.invariant near keys (rw (sym c.from-k.ensures) at w)))
