-- The loop's invariant in `selection::selected`: the set is C_(j-1). Assumes nothing.
use mathlib.Core.Path.{◌≡◌}
use Prim.Native.Nat.{◌-◌}
use Rattle.paging.specs.Selection.{chosen}
use Rattle.ranking.specs.Key.{by_key, key_at}
use Rattle.selection.specs.Marks.{marks, layers}
use Rattle.selection.proofs.selected.Given as goal

abbrev pub invariant-loop-j : goal.invariant-loop-j
invariant-loop-j l = l.set ≡ marks l.pages (chosen l.pages (by_key (key_at l.keys)) (layers l.layer) (l.j - 1))
