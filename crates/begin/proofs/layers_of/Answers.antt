-- `begin::layers_of` meets its contract, by the invariant of its loop. Assumes nothing.
use native.Mathlib.Omega.{arith}
use Rattle.begin.specs.Laws.{below_true}
use Rattle.begin.proofs.Places.{placed_none, placed_more, placed_all}
use Rattle.begin.proofs.layers_of.Goals as goal

pub loop-i-init : goal.loop-i-init
loop-i-init c = placed_none c.args.list.now

pub bounds-layer-from : goal.bounds-layer-from
bounds-layer-from c =
    omega (arith, c.from.ensures, below_true _ _ c.requires.2 c.loop-i.i (omega arith))

pub loop-i-preserved : goal.loop-i-preserved
loop-i-preserved c =
    rw c.from.ensures (placed_more _ _ _ c.requires.0 c.requires.2 _ c.requires.3 (omega arith) c.loop-i.invariant)

pub returns : goal.returns
returns c =
    placed_all _ _ _ c.requires.0 c.requires.2 _ (omega arith) (omega arith) c.loop-i.invariant
