-- `selection::selected` meets its contract, by the invariant of its loop. Assumes nothing.
use mathlib.Core.Path.{◌≡◌}
use Prim.Native.Nat.{◌-◌}
use native.Mathlib.Omega.{arith}
use borrow.Author.Rules.{rules}
use Rattle.selection.proofs.Loops.{chosen_none, chosen_turn}
use Rattle.selection.proofs.selected.Goals as goal

pub loop-j-init : goal.loop-j-init
loop-j-init c = chosen_none _ _ _ (search rules)

pub loop-j-preserved : goal.loop-j-preserved
loop-j-preserved c =
    chosen_turn _ _ _ _ _ _ _ (search rules) c.loop-j.invariant c.joined.ensures c.kept-set.ensures

pub returns : goal.returns
returns c =
    let e : c.loop-j.j - 1 ≡ c.args.slots = omega arith in
    rw e at c.loop-j.invariant
