-- The loop's invariant in `image::seated_marks`: the pages in the slots passed are marked. Assumes nothing.
use Rattle.image.proofs.Seats.{Marked}
use Rattle.image.proofs.seated_marks.Given as goal

abbrev pub invariant-loop-page : goal.invariant-loop-page
invariant-loop-page l = Marked l.held l.marks l.page-index
