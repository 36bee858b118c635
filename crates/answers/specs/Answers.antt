-- The answers of `ask`, as texts that are written one behind the other. The first word is the refusal, 0 if there is none; a
-- refused call answers that number alone. Assumes nothing.
use Rattle.refusals.specs.Numbers.{number}
use Rattle.std.specs.Prelude.{List, [], ◌∷◌, ◌++◌, ℕ, if◌then◌else◌, Option, Some, None}
use Rattle.paging.specs.Sets.{◌=?◌}
use Rattle.serve.specs.declared.Event.{Event}
use Rattle.serve.specs.declared.Event.TheVariants.{Hit, Miss, Refused}
use Rattle.run.specs.declared.Run.{Run}
use Rattle.run.specs.Sound.{sound}
use Rattle.run.specs.Stored.{image_of}
use Rattle.text.specs.Text.{decimal, space}
use Rattle.fields.specs.Fields.{word_of, list_in, bytes_in, bytes_word}
use Rattle.asked.specs.Asked.{most_in_word, number_in, run_of}

abbrev pub Texts : Type 0
Texts = List (List ℕ)

-- `bad line`
unfoldable pub bad_line : Texts
bad_line = (98 ∷ 97 ∷ 100 ∷ 32 ∷ 108 ∷ 105 ∷ 110 ∷ 101 ∷ []) ∷ []

-- A refusal, or 0; a space and a number; a space and bytes.
unfoldable pub refusal_texts : ℕ → Texts
refusal_texts n = decimal n ∷ []

unfoldable pub number_texts : ℕ → Texts
number_texts n = space ∷ decimal n ∷ []

unfoldable pub bytes_texts : List ℕ → Texts
bytes_texts bs = space ∷ bytes_word bs ∷ []

-- The record of a sound run is its image. (An unsound run has none, and no answer has one.)
unfoldable pub record_of : Run → List ℕ
record_of r = if sound r then image_of r else []

unfoldable pub record_texts : Run → Texts
record_texts r = bytes_texts (record_of r)

-- `0 hit SLOT BEST`, `0 swap SLOT VICTIM BEST`, or the refusal.
unfoldable pub event_texts : Event → ℕ → Texts
event_texts (Hit slot) best = (48 ∷ 32 ∷ 104 ∷ 105 ∷ 116 ∷ []) ∷ (number_texts slot ++ number_texts best)
event_texts (Miss slot victim) best =
    (48 ∷ 32 ∷ 115 ∷ 119 ∷ 97 ∷ 112 ∷ []) ∷ (number_texts slot ++ (number_texts victim ++ number_texts best))
event_texts (Refused n) best = refusal_texts (number n)

-- The refusal; and where it is 0, the rest of an answer behind it.
unfoldable pub unless_refused : ℕ → Texts → Texts
unless_refused n rest = if n =? 0 then refusal_texts n ++ rest else refusal_texts n

-- ---- an answer to a word that stands for something, and `bad line` to any other

unfoldable pub with_number : Option ℕ → (ℕ → Texts) → Texts
with_number (Some n) answer = answer n
with_number None answer = bad_line

unfoldable pub with_list : Option (List ℕ) → (List ℕ → Texts) → Texts
with_list (Some list) answer = answer list
with_list None answer = bad_line

unfoldable pub with_run : Option Run → (Run → Texts) → Texts
with_run (Some r) answer = answer r
with_run None answer = bad_line

-- The bytes and the numbers of a word of a line.
unfoldable pub with_bytes : List ℕ → (List ℕ → Texts) → Texts
with_bytes word = with_list (bytes_in most_in_word word)

unfoldable pub with_numbers : List ℕ → (List ℕ → Texts) → Texts
with_numbers word = with_list (list_in most_in_word word)

-- The words behind the first of a line: RECORD PAGE, and N K LIST.
unfoldable pub with_page : List ℕ → (Run → ℕ → Texts) → Texts
with_page line answer = with_run (run_of (word_of 1 line)) (λ r. with_number (number_in (word_of 2 line)) (λ p. answer r p))

unfoldable pub with_start : List ℕ → (ℕ → ℕ → List ℕ → Texts) → Texts
with_start line answer =
    with_number (number_in (word_of 1 line)) (λ N.
    with_number (number_in (word_of 2 line)) (λ k.
    with_numbers (word_of 3 line) (λ list.
    answer N k list)))
