-- The loop's invariant in `hexadecimal::write_pairs`: the digits of the first i bytes stand where they belong. Assumes nothing.
use mathlib.Core.Path.{◌≡◌}
use lib.ListN.{take}
use Rattle.words.specs.Words.{put}
use Rattle.hexadecimal.specs.Hex.{digits}
use Rattle.hexadecimal.proofs.write_pairs.Given as goal

abbrev pub invariant-loop-i : goal.invariant-loop-i
invariant-loop-i l = l.out ≡ put l.initial.out l.at (digits (take l.i l.bytes))
