-- The loop's invariant in `fields::write_more`: what is left, written behind what is there, makes the whole. Assumes nothing.
use Rattle.fields.proofs.Lists.{Listing}
use Rattle.fields.proofs.write_more.Given as goal

abbrev pub invariant-loop-x : goal.invariant-loop-x
invariant-loop-x l = Listing l.list l.initial.out l.at l.out l.next l.x-index
