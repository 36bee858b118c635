-- Bytes in lower-case hexadecimal digits, in ASCII, the high digit first. Assumes nothing.
use Rattle.std.specs.Prelude.{Bool, true, ◌&&◌, List, [], ◌∷◌, ℕ, ◌+◌, ◌-◌, ◌*◌, ◌/◌, ◌%◌, length, if◌then◌else◌, Option, Some, None}
use Rattle.paging.specs.Sets.{◌=?◌, ◌≤?◌, ◌<?◌}
use Rattle.words.specs.Words.{put}

-- The value of a digit, `0` to `9` and `a` to `f`, and 16 for every other character.
unfoldable pub value_of : ℕ → ℕ
value_of c =
    if c <? 48 then 16 else
    if c ≤? 57 then c - 48 else
    if c <? 97 then 16 else
    if c ≤? 102 then c - 87 else
    16

-- The value of a digit, and nothing of every other character.
unfoldable pub digit_value : ℕ → Option ℕ
digit_value c = if value_of c ≤? 15 then Some (value_of c) else None

-- The digit of the low four bits of a number.
unfoldable pub digit_of : ℕ → ℕ
digit_of v = if v % 16 <? 10 then 48 + v % 16 else 87 + v % 16

-- Two digits for each byte.
unfoldable pub digits : List ℕ → List ℕ
digits [] = []
digits (b ∷ bs) = digit_of (b / 16) ∷ digit_of b ∷ digits bs

-- Every character is a digit.
unfoldable pub all_digits : List ℕ → Bool
all_digits [] = true
all_digits (c ∷ cs) = value_of c ≤? 15 && all_digits cs

-- The bytes of a word of digits. (Two digits make less than 256.)
unfoldable pub byte_of : ℕ → ℕ → ℕ
byte_of high low = (16 * value_of high + value_of low) % 256

unfoldable pub bytes_of : List ℕ → List ℕ
bytes_of [] = []
bytes_of (c ∷ []) = []
bytes_of (c ∷ d ∷ cs) = byte_of c d ∷ bytes_of cs

-- A word of pairs of digits whose bytes a buffer has room for is read; every other is refused, and the buffer stays as it was.
unfoldable pub readable : List ℕ → List ℕ → Bool
readable word s = length word % 2 =? 0 && length word / 2 ≤? length s && all_digits word

unfoldable pub count_read : List ℕ → List ℕ → Option ℕ
count_read word s = if readable word s then Some (length word / 2) else None

unfoldable pub bytes_read : List ℕ → List ℕ → List ℕ
bytes_read word s = if readable word s then put s 0 (bytes_of word) else s
