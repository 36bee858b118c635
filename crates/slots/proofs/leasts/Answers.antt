-- `slots::leasts` meets its contract, by the invariant of its loop. Assumes nothing.
use Rattle.slots.proofs.Running.{leasts_none, leasts_next}
use Rattle.slots.proofs.leasts.Goals as goal

pub loop-s-init : goal.loop-s-init
loop-s-init c = leasts_none _ _

pub loop-s-preserved : goal.loop-s-preserved
loop-s-preserved c =
    leasts_next _ _ _ _ _ c.wide-l.ensures.0 c.wide-l.ensures.1 c.loop-s.invariant _ c.min.ensures
