-- The loop's invariant in `fields::number`: with the number so far, what is left decides. Assumes nothing.
use Prim.Native.Nat.{◌≤◌}
use mathlib.Core.Path.{◌≡◌}
use lib.ListN.{drop}
use Rattle.fields.specs.Fields.{number_from}
use Rattle.fields.proofs.number.Given as goal

abbrev pub invariant-loop-c : goal.invariant-loop-c
invariant-loop-c l = (l.n ≤ l.most) × (number_from l.most 0 l.word ≡ number_from l.most l.n (drop l.c-index l.word))
