-- The loop's invariant in `selection::joined`: the marks of the pages below q are stored. Assumes nothing.
use mathlib.Core.Path.{◌≡◌}
use Rattle.paging.specs.Selection.{together}
use Rattle.selection.specs.Marks.{marks, marked, layers}
use Rattle.selection.proofs.joined.Given as goal

abbrev pub invariant-loop-q : goal.invariant-loop-q
invariant-loop-q l = l.out ≡ marks l.q (together (layers l.layer) l.j (marked l.set))
