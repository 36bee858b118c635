-- `layers::sink` meets its contract, by the invariant of its loop. Assumes nothing.
use mathlib.Core.Path.{◌≡◌}
use native.Mathlib.Omega.{arith}
use lib.ListN.{length-take}
use Rattle.layers.proofs.Tables.{sunk_none, sunk_step, sunk_front}
use Rattle.layers.proofs.sink.Goals as goal

pub loop-x-init : goal.loop-x-init
loop-x-init c = sunk_none _ _

pub loop-x-preserved : goal.loop-x-preserved
loop-x-preserved c = sunk_step _ _ _ _ _ c.loop-x-test.true c.loop-x.invariant c.lower.ensures

pub returns : goal.returns
returns c =
    let e : c.loop-x.x-index ≡ c.args.n = omega (arith, length-take c.args.n c.args.layer.now) in
    sunk_front _ _ _ _ c.requires.1 (rw e at c.loop-x.invariant)
