-- `word` of what tells nothing: the offset and the buffer stay. Assumes nothing.
use mathlib.Core.Path.{refl}
use native.Mathlib.Omega.{arith}
use Rattle.text.specs.Told.{told_length, told_bytes}
use Rattle.text.proofs.UntoldTelling.word.Goals as goal

pub returns : goal.returns
unfolding told_length told_bytes
returns c = record { offset = omega arith; text = refl }
