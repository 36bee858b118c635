-- The words of a line and the numbers that they stand for. Assumes nothing.
use Rattle.std.specs.Prelude.{Bool, true, false, ◌&&◌, List, [], ◌∷◌, ℕ, zero, suc, ◌+◌, ◌-◌, ◌/◌, ◌%◌, length, take, drop, slice_index_or, if◌then◌else◌, Option, Some, None}
use Rattle.paging.specs.Sets.{◌=?◌, ◌≤?◌, bit}
use Rattle.words.specs.Words.{put}
use Rattle.text.specs.Text.{decimal}
use Rattle.text.specs.Laws.{value_of}
use Rattle.hexadecimal.specs.Hex.{digits, all_digits, bytes_of, count_read, bytes_read}

-- How many characters stand before the first separator.
unfoldable pub before : ℕ → List ℕ → ℕ
before x [] = 0
before x (c ∷ cs) = if c =? x then 0 else suc (before x cs)

-- A word of a line, the first being word 0: what stands before the next space. Past the last word there is the empty one.
unfoldable pub word_of : ℕ → List ℕ → List ℕ
word_of zero line = take (before 32 line) line
word_of (suc n) line = word_of n (drop (suc (before 32 line)) line)

-- How many separators there are.
unfoldable pub separators : ℕ → List ℕ → ℕ
separators x [] = 0
separators x (c ∷ cs) = bit (c =? x) + separators x cs

-- Every character is a decimal digit.
unfoldable pub all_decimal : List ℕ → Bool
all_decimal [] = true
all_decimal (c ∷ cs) = 48 ≤? c && c ≤? 57 && all_decimal cs

-- The value of a decimal digit, and nothing of every other character.
unfoldable pub decimal_value : ℕ → Option ℕ
decimal_value c = if 48 ≤? c && c ≤? 57 then Some (c - 48) else None

-- The number that digits stand for after others that stand for a number, if it is at most `most`.
unfoldable pub number_from : ℕ → ℕ → List ℕ → Option ℕ
number_from most n cs = if all_decimal cs && value_of n cs ≤? most then Some (value_of n cs) else None

unfoldable pub number_of : ℕ → List ℕ → Option ℕ
number_of most [] = None
number_of most (c ∷ cs) = number_from most 0 (c ∷ cs)

-- The word that stands for nothing at all: `-`.
unfoldable pub none_word : List ℕ → Bool
none_word word = length word =? 1 && slice_index_or word 0 0 =? 45

-- Bytes in hexadecimal, or none. The empty word is refused.
unfoldable pub bytes_count : List ℕ → List ℕ → Option ℕ
bytes_count word s =
    if none_word word then Some 0 else
    if length word =? 0 then None else
    count_read word s

unfoldable pub bytes_after : List ℕ → List ℕ → List ℕ
bytes_after word s =
    if none_word word then s else
    if length word =? 0 then s else
    bytes_read word s

-- The word of some bytes.
unfoldable pub bytes_word : List ℕ → List ℕ
bytes_word [] = 45 ∷ []
bytes_word (b ∷ bs) = digits (b ∷ bs)

-- The bytes that a word stands for, if they are at most so many.
unfoldable pub bytes_in : ℕ → List ℕ → Option (List ℕ)
bytes_in most word =
    if none_word word then Some [] else
    if length word =? 0 then None else
    if length word % 2 =? 0 && length word / 2 ≤? most && all_digits word then Some (bytes_of word) else None

-- The parts of a word between separators: one more than there are separators.
unfoldable pub in_front : ℕ → List (List ℕ) → List (List ℕ)
in_front c [] = (c ∷ []) ∷ []
in_front c (w ∷ ws) = (c ∷ w) ∷ ws

unfoldable pub parts : ℕ → List ℕ → List (List ℕ)
parts x [] = [] ∷ []
parts x (c ∷ cs) = if c =? x then [] ∷ parts x cs else in_front c (parts x cs)

-- The numbers of some words, up to the first that is no 16-bit number.
unfoldable pub number_then : Option ℕ → List ℕ → List ℕ
number_then (Some n) ns = n ∷ ns
number_then None ns = []

unfoldable pub numbers_of : List (List ℕ) → List ℕ
numbers_of [] = []
numbers_of (w ∷ ws) = number_then (number_of 65535 w) (numbers_of ws)

-- The list that a word stands for, of 16-bit numbers parted by single commas, if they are at most so many; or none.
unfoldable pub list_in : ℕ → List ℕ → Option (List ℕ)
list_in most word =
    if none_word word then Some [] else
    if length (numbers_of (parts 44 word)) =? length (parts 44 word) && length (parts 44 word) ≤? most
    then Some (numbers_of (parts 44 word))
    else None

-- How many there are.
unfoldable pub count_of : Option (List ℕ) → Option ℕ
count_of None = None
count_of (Some ns) = Some (length ns)

-- A buffer after a list was read into it, from its start on: the numbers up to the first that is none, as far as there is room.
unfoldable pub list_after : List ℕ → List ℕ → List ℕ
list_after word s = if none_word word then s else put s 0 (take (length s) (numbers_of (parts 44 word)))

-- The texts of a list: its numbers with commas between them, or `-` where it is empty.
unfoldable pub more_texts : List ℕ → List (List ℕ)
more_texts [] = []
more_texts (n ∷ ns) = (44 ∷ []) ∷ decimal n ∷ more_texts ns

unfoldable pub list_texts : List ℕ → List (List ℕ)
list_texts [] = (45 ∷ []) ∷ []
list_texts (n ∷ ns) = decimal n ∷ more_texts ns

-- Two texts are the same.
unfoldable pub same_text : List ℕ → List ℕ → Bool
same_text [] [] = true
same_text [] (d ∷ ds) = false
same_text (c ∷ cs) [] = false
same_text (c ∷ cs) (d ∷ ds) = c =? d && same_text cs ds
