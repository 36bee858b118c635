-- `word` of what writes: as the function that it calls. Assumes nothing.
use native.Mathlib.Omega.{arith}
use Rattle.text.specs.Told.{told_length, told_room, told_bytes}
use Rattle.text.proofs.WrittenTelling.word.Goals as goal

pub write_word-requires : goal.write_word-requires
unfolding told_length told_room
write_word-requires c = c.requires

pub returns : goal.returns
unfolding told_length told_bytes
returns c = record { offset = omega (arith, c.write_word.ensures.offset); text = c.write_word.ensures.text }
