-- `number` of what measures: the offset moves by the number of digits, and the buffer stays. Assumes nothing.
use mathlib.Core.Path.{refl}
use native.Mathlib.Omega.{arith}
use Rattle.text.specs.Told.{told_length, told_room, told_bytes}
use Rattle.text.proofs.MeasuredTelling.number.Goals as goal

pub overflow_add-result : goal.overflow_add-result
unfolding told_length told_room
overflow_add-result c = omega (arith, c.requires)

pub returns : goal.returns
unfolding told_length told_bytes
returns c = record { offset = omega arith; text = refl }
