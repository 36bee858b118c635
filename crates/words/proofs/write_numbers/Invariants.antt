-- The loop's invariant in `words::write_numbers`: the first i numbers stand where they belong, and the rest is as it was. Assumes
-- nothing.
use mathlib.Core.Path.{◌≡◌}
use lib.ListN.{length, take}
use Rattle.words.specs.Words.{words, put}
use Rattle.words.proofs.write_numbers.Given as goal

abbrev pub invariant-loop-i : goal.invariant-loop-i
invariant-loop-i l = (length l.s ≡ length l.initial.s) × (l.s ≡ put l.initial.s l.at (words 4 (take l.i l.list)))
