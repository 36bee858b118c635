-- `word` of what measures: the offset moves by the word's length, and the buffer stays. Assumes nothing.
use mathlib.Core.Path.{refl}
use borrow.Author.Rules.{rules}
use Rattle.text.specs.Told.{told_length, told_room, told_bytes}
use Rattle.text.proofs.MeasuredTelling.word.Goals as goal

pub overflow_add-result : goal.overflow_add-result
unfolding told_length told_room
overflow_add-result c = search rules

pub returns : goal.returns
unfolding told_length told_bytes
returns c = record { offset = refl; text = refl }
