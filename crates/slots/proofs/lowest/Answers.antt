-- `slots::lowest` meets its contract, by the invariant of its loop. Assumes nothing.
use mathlib.Core.Path.{refl}
use Rattle.slots.specs.Slots.{least_key}
use Rattle.slots.proofs.Loops.{least_next}
use Rattle.slots.proofs.lowest.Goals as goal

pub loop-s-init : goal.loop-s-init
unfolding least_key
loop-s-init c = refl

pub loop-s-preserved : goal.loop-s-preserved
loop-s-preserved c =
    least_next _ _ _ _ _ _ _ c.loop-s.invariant c.pick.ensures c.min-least.ensures
