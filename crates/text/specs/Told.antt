-- What is told of some text: nothing, or how long it is, or the text, written into a buffer. The first Bool is whether it is told, the
-- second whether what is told is written. Assumes nothing.
use Rattle.std.specs.Prelude.{Bool, true, false, List, ℕ, length}
use Rattle.words.specs.Words.{put}

-- How far an offset moves by text that is told.
unfoldable pub told_length : Bool → List ℕ → ℕ
told_length true text = length text
told_length false text = 0

-- How far it may move: to the end of the buffer where text is written, else as far as an offset counts.
unfoldable pub told_room : Bool → Bool → ℕ → ℕ
told_room true true size = size
told_room true false size = 18446744073709551615
told_room false written size = 18446744073709551615

-- The buffer behind text that is told at an offset.
unfoldable pub told_bytes : Bool → Bool → List ℕ → ℕ → List ℕ → List ℕ
told_bytes true true out at text = put out at text
told_bytes true false out at text = out
told_bytes false written out at text = out
