-- What the words of a line stand for: numbers below 2^32, runs, a run and a page. Assumes nothing.
use Rattle.std.specs.Prelude.{List, [], ◌∷◌, ℕ, if◌then◌else◌, Option, Some, None}
use Rattle.paging.specs.Sets.{◌=?◌}
use Rattle.image.specs.Layout.{pages_in, slots_in, image_refusal, marks_agree}
use Rattle.run.specs.declared.Run.{Run}
use Rattle.run.specs.Numbers.{blank_run}
use Rattle.run.specs.Stored.{image_run}
use Rattle.fields.specs.Fields.{word_of, number_of, list_in, count_of, bytes_in}
use Rattle.asked.specs.declared.Paged.{Paged}
use Rattle.asked.specs.declared.StartWords.{StartWords}

-- A number that fits is below 2^32.
unfoldable pub number_in : List ℕ → Option ℕ
number_in = number_of 4294967295

-- No word of a line stands for more bytes or numbers.
abbrev pub most_in_word : ℕ
most_in_word = 131072

-- `default`
abbrev pub word_default : List ℕ
word_default = 100 ∷ 101 ∷ 102 ∷ 97 ∷ 117 ∷ 108 ∷ 116 ∷ []

-- The longest record, of 1,024 pages and 64 slots.
abbrev pub longest_record : ℕ
longest_record = 3236

-- The run that a stored run's bytes describe, sound or not. Where marks and slots differ, the run is unsound: the blank one.
unfoldable pub run_in : List ℕ → Run
run_in b = if marks_agree (pages_in b) (slots_in b) b then image_run b else blank_run

-- Bytes whose length or header is not a stored run's describe none.
unfoldable pub run_of_bytes : Option (List ℕ) → Option Run
run_of_bytes None = None
run_of_bytes (Some b) = if image_refusal b =? 0 then Some (run_in b) else None

-- The run of a RECORD.
unfoldable pub run_of : List ℕ → Option Run
run_of word = run_of_bytes (bytes_in longest_record word)

-- A RECORD and a PAGE, the second and the third word of a line.
unfoldable pub paged : Option Run → Option ℕ → Option Paged
paged (Some r) (Some p) = Some (record { run = r; page = p })
paged (Some r) None = None
paged None v = None

unfoldable pub paged_of : List ℕ → Option Paged
paged_of line = paged (run_of (word_of 1 line)) (number_in (word_of 2 line))

-- N, K and how many pages LIST has, of a line that describes a start; where one of the words does not fit, none of it.
unfoldable pub start_words : Option ℕ → Option ℕ → Option ℕ → Option StartWords
start_words (Some N) (Some k) (Some n) = Some (record { pages = N; slots = k; listed = n })
start_words (Some N) (Some k) None = None
start_words (Some N) None c = None
start_words None v c = None

-- Of a line whose LIST has at most so many pages.
unfoldable pub start_of : ℕ → List ℕ → Option StartWords
start_of most line = start_words (number_in (word_of 1 line)) (number_in (word_of 2 line)) (count_of (list_in most (word_of 3 line)))
