-- The loop's invariant in `layers::seen`: the layers of the pages passed are marked. Assumes nothing.
use mathlib.Core.Path.{◌≡◌}
use Rattle.layers.specs.Asked.{layer_at}
use Rattle.layers.specs.Seen.{seen_marks}
use Rattle.layers.proofs.seen.Given as goal

abbrev pub invariant-loop-x : goal.invariant-loop-x
invariant-loop-x l = l.marks ≡ seen_marks l.x-index (layer_at l.layer)
