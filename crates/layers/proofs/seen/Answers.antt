-- `layers::seen` meets its contract, by the invariant of its loop. Assumes nothing.
use mathlib.Core.Path.{◌≡◌, ◌∙◌}
use Prim.Native.Nat.{◌<◌}
use native.Mathlib.Omega.{arith}
use lib.ListN.{length-take}
use Rattle.std.proofs.lemmas.List.{get_or-take}
use Rattle.layers.proofs.Tables.{seen_none, seen_step}
use Rattle.layers.proofs.seen.Goals as goal

pub loop-x-init : goal.loop-x-init
loop-x-init c = seen_none _

pub loop-x-preserved : goal.loop-x-preserved
loop-x-preserved c =
    let less : c.loop-x.x-index < c.args.pages = omega (arith, c.loop-x-test.true, length-take c.args.pages c.args.layer.now) in
    let at = c.from.ensures ∙ get_or-take c.args.pages c.args.layer.now c.loop-x.x-index 0 less in
    seen_step _ _ _ _ at (omega (arith, at, c.fits-layer c.loop-x.x-index)) c.loop-x.invariant

pub returns : goal.returns
returns c =
    let e : c.loop-x.x-index ≡ c.args.pages = omega (arith, c.told-layer, length-take c.args.pages c.args.layer.now) in
    rw e at c.loop-x.invariant
