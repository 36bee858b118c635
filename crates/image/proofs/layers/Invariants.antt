-- The loop's invariant in `image::layers`: after q turns the array is the table of the first q layers. Assumes nothing.
use Prim.Native.Nat.{◌+◌, ◌%◌}
use mathlib.Core.Path.{◌≡◌}
use lib.ListN.{get_or}
use Rattle.paging.specs.Sets.{table}
use Rattle.image.proofs.layers.Given as goal

abbrev pub invariant-loop-q : goal.invariant-loop-q
invariant-loop-q l = l.layer ≡ table 1024 l.q 0 (λ p. get_or l.image (36 + p) 0 % 128)
