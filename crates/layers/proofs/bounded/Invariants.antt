-- The loop's invariant in `layers::bounded`: `most` is at most k where each layer passed is. Assumes nothing.
use Rattle.layers.proofs.Passes.{Most}
use Rattle.layers.proofs.bounded.Given as goal

abbrev pub invariant-loop-x : goal.invariant-loop-x
invariant-loop-x l = Most l.layer l.slots l.x-index l.most
