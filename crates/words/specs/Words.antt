-- Document 01, 'House layouts': numbers of any width in bytes, low byte first. Assumes nothing.
use Rattle.std.specs.Prelude.{List, [], ◌∷◌, ◌++◌, ℕ, zero, suc, ◌+◌, ◌*◌, ◌/◌, ◌%◌, length, take, drop}

-- A number in w bytes, low byte first.
unfoldable pub bytes : ℕ → ℕ → List ℕ
bytes zero v = []
bytes (suc w) v = v % 256 ∷ bytes w (v / 256)

-- The number that some bytes stand for.
unfoldable pub number : List ℕ → ℕ
number [] = 0
number (b ∷ bs) = b + 256 * number bs

-- A list of numbers, each in w bytes; sections adjoin.
unfoldable pub words : ℕ → List ℕ → List ℕ
words w [] = []
words w (v ∷ vs) = bytes w v ++ words w vs

-- The number in the w bytes at an offset.
unfoldable pub word_at : ℕ → List ℕ → ℕ → ℕ
word_at w s at = number (take w (drop at s))

-- s with some bytes put in at an offset.
unfoldable pub put : List ℕ → ℕ → List ℕ → List ℕ
put s at new = take at s ++ (new ++ drop (at + length new) s)
