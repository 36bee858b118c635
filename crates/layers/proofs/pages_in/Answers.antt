-- `layers::pages_in` meets its contract, by the invariant of its loop. Assumes nothing.
use mathlib.Core.Logic.{inl, inr}
use mathlib.Core.Path.{◌≡◌, ◌∙◌}
use native.Mathlib.Omega.{arith}
use lib.ListN.{length-take}
use Rattle.layers.proofs.Passes.{counted_none, counted_step}
use Rattle.layers.proofs.pages_in.Goals as goal
use Rattle.layers.proofs.pages_in.Goals.{else-x-j, then-x-j}

pub loop-x-init : goal.loop-x-init
loop-x-init c = counted_none _ _

pub loop-x-preserved : goal.loop-x-preserved
loop-x-preserved c =
    counted_step
    c.loop-x.invariant
    (omega (arith, c.loop-x-test.true, length-take c.args.pages c.args.layer.now))
    (elim c.if-x-j.branch [ then-x-j w ↦ inl (w.if-x-j.true, w.n-is) | else-x-j w ↦ inr (w.if-x-j.false, w.n-is) ])

pub returns : goal.returns
returns c =
    let e : c.loop-x.x-index ≡ c.args.pages = omega (arith, c.told-layer, length-take c.args.pages c.args.layer.now) in
    c.from.ensures ∙ (rw e at c.loop-x.invariant).is
