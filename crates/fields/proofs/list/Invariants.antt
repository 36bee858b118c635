-- The loop's invariant in `fields::list`: what is left, read behind what is there, makes the whole. Assumes nothing.
use mathlib.Core.Bool.{false}
use mathlib.Core.Path.{◌≡◌}
use Rattle.fields.specs.Fields.{none_word}
use Rattle.fields.proofs.Lists.{Reading}
use Rattle.fields.proofs.list.Given as goal

abbrev pub invariant-loop-n : goal.invariant-loop-n
invariant-loop-n l = Reading l.word l.initial.out l.out l.n l.from × (none_word l.word ≡ false)
