-- `layers::bounded` meets its contract, by the invariant of its loop. Assumes nothing.
use mathlib.Core.Path.{◌≡◌}
use native.Mathlib.Omega.{arith}
use lib.ListN.{length-take}
use Rattle.layers.proofs.Passes.{most_none, most_step}
use Rattle.layers.proofs.bounded.Goals as goal

pub loop-x-init : goal.loop-x-init
loop-x-init c = most_none _ _

pub loop-x-preserved : goal.loop-x-preserved
loop-x-preserved c =
    most_step c.loop-x.invariant (omega (arith, c.loop-x-test.true, length-take c.args.pages c.args.layer.now)) c.max-most.ensures

pub returns : goal.returns
returns c =
    let e : c.loop-x.x-index ≡ c.args.pages = omega (arith, c.told-layer, length-take c.args.pages c.args.layer.now) in
    (rw e at c.loop-x.invariant).is
