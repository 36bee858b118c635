-- The loop's invariant in `words::read_list`: after i turns the array is the table of the first i numbers. Assumes nothing.
use mathlib.Core.Path.{◌≡◌}
use Prim.Native.Nat.{◌+◌, ◌*◌}
use Rattle.paging.specs.Sets.{table}
use Rattle.words.specs.Words.{word_at}
use Rattle.words.proofs.read_list.Given as goal

abbrev pub invariant-loop-i : goal.invariant-loop-i
invariant-loop-i g l = l.list ≡ table g.row.N l.i l.rest (λ j. word_at 2 l.s (l.at + 2 * j))
