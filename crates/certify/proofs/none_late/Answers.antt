-- `certify::none_late` meets its contract, by the invariant of its loop. Assumes nothing.
use mathlib.Core.Path.{refl}
use Rattle.paging.specs.Sets.{each}
use Rattle.certify.proofs.Passes.{each_more}
use Rattle.certify.proofs.none_late.Goals as goal

pub loop-q-init : goal.loop-q-init
unfolding each
loop-q-init c = refl

pub loop-q-preserved : goal.loop-q-preserved
loop-q-preserved c = each_more _ _ _ _ c.loop-q.invariant (rw (c.in_time-all.ensures, c.from.ensures))
