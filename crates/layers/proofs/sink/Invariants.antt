-- The loop's invariant in `layers::sink`: the entries passed are lowered. Assumes nothing.
use mathlib.Core.Path.{◌≡◌}
use Rattle.layers.specs.Asked.{sunk}
use Rattle.layers.proofs.sink.Given as goal

abbrev pub invariant-loop-x : goal.invariant-loop-x
invariant-loop-x l = l.x-items ≡ sunk l.from l.x-index l.initial.x-items
