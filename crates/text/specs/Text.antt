-- Document 01, 'Traces to work from': the lines that the trace program prints, as bytes. Assumes nothing.
use Rattle.std.specs.Prelude.{List, [], ◌∷◌, ◌++◌, ℕ, zero, suc, ◌+◌, ◌/◌, ◌%◌}
use Rattle.refusals.specs.Numbers.{number}
use Rattle.serve.specs.declared.Event.{Event}
use Rattle.serve.specs.declared.Event.TheVariants.{Hit, Miss, Refused}

-- The decimal digits of a number, in ASCII, with no zero in front. (A number below 10^n has at most n digits.)
unfoldable pub digits_to : ℕ → ℕ → List ℕ
digits_to zero n = []
digits_to (suc w) zero = []
digits_to (suc w) (suc n) = digits_to w (suc n / 10) ++ ((48 + suc n % 10) ∷ [])

unfoldable pub decimal : ℕ → List ℕ
decimal zero = 48 ∷ []
decimal (suc n) = digits_to 20 (suc n)

-- A space, the line's end; a space and a number.
abbrev pub space : List ℕ
space = 32 ∷ []

abbrev pub line_end : List ℕ
line_end = 10 ∷ []

unfoldable pub then_number : ℕ → List ℕ
then_number n = space ++ decimal n

-- The words of the lines, in ASCII.
abbrev pub word_swap : List ℕ
word_swap = 115 ∷ 119 ∷ 97 ∷ 112 ∷ []

abbrev pub word_hit : List ℕ
word_hit = 104 ∷ 105 ∷ 116 ∷ []

abbrev pub word_refused : List ℕ
word_refused = 114 ∷ 101 ∷ 102 ∷ 117 ∷ 115 ∷ 101 ∷ 100 ∷ []

abbrev pub word_pages : List ℕ
word_pages = 112 ∷ 97 ∷ 103 ∷ 101 ∷ 115 ∷ []

abbrev pub word_slots : List ℕ
word_slots = 115 ∷ 108 ∷ 111 ∷ 116 ∷ 115 ∷ []

abbrev pub word_requests : List ℕ
word_requests = 114 ∷ 101 ∷ 113 ∷ 117 ∷ 101 ∷ 115 ∷ 116 ∷ 115 ∷ []

abbrev pub word_served : List ℕ
word_served = 115 ∷ 101 ∷ 114 ∷ 118 ∷ 101 ∷ 100 ∷ []

abbrev pub word_hits : List ℕ
word_hits = 104 ∷ 105 ∷ 116 ∷ 115 ∷ []

abbrev pub word_misses : List ℕ
word_misses = 109 ∷ 105 ∷ 115 ∷ 115 ∷ 101 ∷ 115 ∷ []

abbrev pub word_best : List ℕ
word_best = 98 ∷ 101 ∷ 115 ∷ 116 ∷ []

-- `swap` has page, slot, victim, best so far; `hit` page, slot, best so far. A refused request prints `refused`, page, number.
unfoldable pub event_line : ℕ → Event → ℕ → List ℕ
event_line page (Hit slot) best = word_hit ++ (then_number page ++ (then_number slot ++ (then_number best ++ line_end)))
event_line page (Miss slot victim) best =
    word_swap ++ (then_number page ++ (then_number slot ++ (then_number victim ++ (then_number best ++ line_end))))
event_line page (Refused n) best = word_refused ++ (then_number page ++ (then_number (number n) ++ line_end))

-- A space, a word and a number, as in the first and the last line from their second word on.
unfoldable pub then_entry : List ℕ → ℕ → List ℕ
then_entry word n = space ++ (word ++ then_number n)

-- The first line: `pages N slots k requests T`.
unfoldable pub first_line : ℕ → ℕ → ℕ → List ℕ
first_line pages slots requests =
    word_pages ++ (then_number pages ++ (then_entry word_slots slots ++ (then_entry word_requests requests ++ line_end)))

-- The last line: `served S hits H misses M best B`.
unfoldable pub last_line : ℕ → ℕ → ℕ → ℕ → List ℕ
last_line served hits misses best =
    word_served ++ (then_number served ++ (then_entry word_hits hits ++ (then_entry word_misses misses ++ (then_entry word_best best ++ line_end))))

-- The line of a refused file: `refused N`.
unfoldable pub refused_line : ℕ → List ℕ
refused_line number = word_refused ++ (then_number number ++ line_end)
