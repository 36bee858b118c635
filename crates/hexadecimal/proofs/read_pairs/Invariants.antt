-- The loop's invariant in `hexadecimal::read_pairs`: the first i bytes stand at the start. Assumes nothing.
use mathlib.Core.Path.{◌≡◌}
use lib.ListN.{take}
use Rattle.words.specs.Words.{put}
use Rattle.hexadecimal.specs.Hex.{bytes_of}
use Rattle.hexadecimal.proofs.read_pairs.Given as goal

abbrev pub invariant-loop-i : goal.invariant-loop-i
invariant-loop-i l = l.out ≡ put l.initial.out 0 (take l.i (bytes_of l.word))
