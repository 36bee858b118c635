-- `layers::only_from` meets its contract, by the invariant of its loop. Assumes nothing.
use mathlib.Core.Logic.{inl, inr}
use Rattle.layers.proofs.Passes.{others_none, others_step, others_end}
use Rattle.layers.proofs.only_from.Goals as goal
use Rattle.layers.proofs.only_from.Goals.{then-ne, else-ne}

pub loop-y-init : goal.loop-y-init
loop-y-init g c = others_none _ _

pub loop-y-preserved : goal.loop-y-preserved
loop-y-preserved g c =
    others_step
    c.loop-y.invariant
    c.loop-y-test.true
    c.y-item.is
    c.ne.ensures
    (elim c.if-ne.branch [ then-ne w ↦ inl (w.if-ne.true, w.others-is) | else-ne w ↦ inr (w.if-ne.false, w.others-is) ])

pub returns : goal.returns
returns g c = others_end c.args.table.now c.args.from c.loop-y.invariant c.loop-y-test.false
