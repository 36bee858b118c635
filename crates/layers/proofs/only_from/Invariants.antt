-- The loop's invariant in `layers::only_from`: `others` counts the entries passed that are not x. Assumes nothing.
use Rattle.layers.proofs.Passes.{Others}
use Rattle.layers.proofs.only_from.Given as goal

abbrev pub invariant-loop-y : goal.invariant-loop-y
invariant-loop-y g l = Others (λ y. g.T.PartialEq.eq y l.x) l.y-items l.y-index l.others
