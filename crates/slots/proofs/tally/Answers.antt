-- `slots::tally` meets its contract, by the invariant of its loop. Assumes nothing.
use mathlib.Core.Path.{◌∙◌}
use native.Mathlib.Omega.{arith}
use Rattle.slots.proofs.Loops.{tally_none, tally_most, tally_next, taken}
use Rattle.slots.proofs.tally.Goals as goal

pub loop-layer-init : goal.loop-layer-init
loop-layer-init c = tally_none _

pub overflow_add-sums : goal.overflow_add-sums
overflow_add-sums c =
    let t = taken _ _ _ c.loop-layer-test.true in
    omega (arith, c.requires, t.below, tally_most _ _ _ _ (c.wide-j.ensures.0 ∙ t.same) c.wide-j.ensures.1 c.loop-layer.invariant)

pub loop-layer-preserved : goal.loop-layer-preserved
loop-layer-preserved c =
    tally_next _ _ _ _ (c.wide-j.ensures.0 ∙ (taken _ _ _ c.loop-layer-test.true).same) c.wide-j.ensures.1 c.loop-layer.invariant
