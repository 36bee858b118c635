-- `number` of what writes: as the function that it calls. Assumes nothing.
use native.Mathlib.Omega.{arith}
use Rattle.text.specs.Told.{told_length, told_room, told_bytes}
use Rattle.text.proofs.WrittenTelling.number.Goals as goal

pub write_number-requires : goal.write_number-requires
unfolding told_length told_room
write_number-requires c = c.requires

pub returns : goal.returns
unfolding told_length told_bytes
returns c = record { offset = omega (arith, c.write_number.ensures.offset); text = c.write_number.ensures.text }
