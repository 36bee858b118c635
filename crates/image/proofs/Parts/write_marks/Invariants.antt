-- The loop's invariant in `Parts::write_marks`: the first q marks stand where they belong, and the rest is as it was. Assumes
-- nothing.
use mathlib.Core.Path.{◌≡◌}
use lib.ListN.{get_or}
use Rattle.paging.specs.Sets.{listed}
use Rattle.words.specs.Words.{put}
use Rattle.slots.specs.Slots.{seated}
use Rattle.image.specs.Layout.{mark_byte}
use Rattle.image.proofs.Parts.write_marks.Given as goal

abbrev pub invariant-loop-q : goal.invariant-loop-q
invariant-loop-q l = l.out ≡ put l.initial.out 36 (listed l.q (λ p. mark_byte (get_or l.layer p 0) (seated l.self.held.now l.self.slots p)))
