-- The loop's invariant in `selection::kept`: the marks of the pages below q are stored; a page that is not in the set keeps the
-- mark that is there. Assumes nothing.
use mathlib.Core.Path.{◌≡◌}
use Rattle.paging.specs.Selection.{highest}
use Rattle.ranking.specs.Key.{by_key, key_at}
use Rattle.selection.specs.Marks.{marks, marked}
use Rattle.selection.proofs.kept.Given as goal

abbrev pub invariant-loop-q : goal.invariant-loop-q
invariant-loop-q l = l.out ≡ marks l.q (highest l.pages (by_key (key_at l.keys)) (marked l.set) l.j)
