-- The loop's invariant in `fields::words_in`: those counted and those that are left are all. Assumes nothing.
use Prim.Native.Nat.{suc, ◌+◌, ◌≤◌}
use mathlib.Core.Path.{◌≡◌}
use lib.ListN.{drop}
use Rattle.fields.specs.Fields.{separators}
use Rattle.fields.proofs.words_in.Given as goal

abbrev pub invariant-loop-c : goal.invariant-loop-c
invariant-loop-c l = (l.n ≤ l.c-index + 1) × (l.n + separators 32 (drop l.c-index l.line) ≡ suc (separators 32 l.line))
