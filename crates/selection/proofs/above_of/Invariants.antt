-- The loop's invariant in `selection::above_of`: the pages below r are counted. Assumes nothing.
use mathlib.Core.Bool.{◌&&◌}
use mathlib.Core.Path.{◌≡◌}
use Prim.Native.Nat.{◌≤◌}
use Rattle.paging.specs.Sets.{count}
use Rattle.ranking.specs.Key.{by_key, key_at}
use Rattle.selection.specs.Marks.{marked}
use Rattle.selection.proofs.above_of.Given as goal

abbrev pub invariant-loop-r : goal.invariant-loop-r
invariant-loop-r l = (l.n ≤ l.r) × (l.n ≡ count (λ u. marked l.set u && by_key (key_at l.keys) u l.q) l.r)
