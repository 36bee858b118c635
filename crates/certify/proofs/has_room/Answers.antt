-- `certify::has_room` meets its contract, by the invariant of its loop. Assumes nothing.
use mathlib.Core.Path.{refl}
use Rattle.paging.specs.Sets.{each}
use Rattle.certify.proofs.Passes.{each_more}
use Rattle.certify.proofs.has_room.Goals as goal

pub loop-j-init : goal.loop-j-init
unfolding each
loop-j-init c = refl

pub loop-j-preserved : goal.loop-j-preserved
loop-j-preserved c = each_more _ _ _ _ c.loop-j.invariant (rw c.from.ensures)
