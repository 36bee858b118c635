-- `slots::count_to` meets its contract, by the invariant of its loop. Assumes nothing.
use mathlib.Core.Path.{refl}
use native.Mathlib.Omega.{arith}
use Rattle.paging.specs.Sets.{count}
use Rattle.slots.specs.Slots.{near_to}
use Rattle.slots.proofs.Loops.{count_next, count_most, taken}
use Rattle.slots.proofs.count_to.Goals as goal

pub loop-layer-init : goal.loop-layer-init
unfolding near_to count
loop-layer-init c = refl

pub overflow_add-n : goal.overflow_add-n
overflow_add-n c =
    let t = taken _ _ _ c.loop-layer-test.true in
    omega (arith, c.requires, t.below, count_most _ _ _ _ _ c.loop-layer.invariant (rw t.same at c.from-n.ensures))

pub loop-layer-preserved : goal.loop-layer-preserved
loop-layer-preserved c =
    count_next _ _ _ _ _ c.loop-layer.invariant (rw (taken _ _ _ c.loop-layer-test.true).same at c.from-n.ensures)
