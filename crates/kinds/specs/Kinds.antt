-- The questions of `ask` by their first word and how many words there are; every other line is answered `bad line`. Assumes nothing.
use Rattle.std.specs.Prelude.{List, [], ◌∷◌, ℕ, suc, if◌then◌else◌}
use Rattle.paging.specs.Sets.{◌=?◌}
use Rattle.fields.specs.Fields.{word_of, separators, same_text}
use Rattle.answers.specs.Answers.{Texts, bad_line}
use Rattle.calls.specs.Calls.{start_answer, request_answer, trial_answer, layer_answer, certain_answer, selection_answer, sound_answer}
use Rattle.files.specs.Files.{fill_answer, look_answer, readtrace_answer, writetrace_answer, readimage_answer, writeimage_answer, board_answer}

-- The first words, in ASCII.
abbrev pub word_sound : List ℕ
word_sound = 115 ∷ 111 ∷ 117 ∷ 110 ∷ 100 ∷ []

abbrev pub word_selection : List ℕ
word_selection = 115 ∷ 101 ∷ 108 ∷ 101 ∷ 99 ∷ 116 ∷ 105 ∷ 111 ∷ 110 ∷ []

abbrev pub word_readtrace : List ℕ
word_readtrace = 114 ∷ 101 ∷ 97 ∷ 100 ∷ 116 ∷ 114 ∷ 97 ∷ 99 ∷ 101 ∷ []

abbrev pub word_readimage : List ℕ
word_readimage = 114 ∷ 101 ∷ 97 ∷ 100 ∷ 105 ∷ 109 ∷ 97 ∷ 103 ∷ 101 ∷ []

abbrev pub word_request : List ℕ
word_request = 114 ∷ 101 ∷ 113 ∷ 117 ∷ 101 ∷ 115 ∷ 116 ∷ []

abbrev pub word_trial : List ℕ
word_trial = 116 ∷ 114 ∷ 105 ∷ 97 ∷ 108 ∷ []

abbrev pub word_layer : List ℕ
word_layer = 108 ∷ 97 ∷ 121 ∷ 101 ∷ 114 ∷ []

abbrev pub word_certain : List ℕ
word_certain = 99 ∷ 101 ∷ 114 ∷ 116 ∷ 97 ∷ 105 ∷ 110 ∷ []

abbrev pub word_writeimage : List ℕ
word_writeimage = 119 ∷ 114 ∷ 105 ∷ 116 ∷ 101 ∷ 105 ∷ 109 ∷ 97 ∷ 103 ∷ 101 ∷ []

abbrev pub word_board : List ℕ
word_board = 98 ∷ 111 ∷ 97 ∷ 114 ∷ 100 ∷ []

abbrev pub word_look : List ℕ
word_look = 108 ∷ 111 ∷ 111 ∷ 107 ∷ []

abbrev pub word_start : List ℕ
word_start = 115 ∷ 116 ∷ 97 ∷ 114 ∷ 116 ∷ []

abbrev pub word_fill : List ℕ
word_fill = 102 ∷ 105 ∷ 108 ∷ 108 ∷ []

abbrev pub word_writetrace : List ℕ
word_writetrace = 119 ∷ 114 ∷ 105 ∷ 116 ∷ 101 ∷ 116 ∷ 114 ∷ 97 ∷ 99 ∷ 101 ∷ []

-- The questions of two words, of three, of four, of five and of seven.
unfoldable pub two_words : List ℕ → List ℕ → Texts
two_words kind line =
    if same_text kind word_sound then sound_answer line else
    if same_text kind word_selection then selection_answer line else
    if same_text kind word_readtrace then readtrace_answer line else
    if same_text kind word_readimage then readimage_answer line else
    bad_line

unfoldable pub three_words : List ℕ → List ℕ → Texts
three_words kind line =
    if same_text kind word_request then request_answer line else
    if same_text kind word_trial then trial_answer line else
    if same_text kind word_layer then layer_answer line else
    if same_text kind word_certain then certain_answer line else
    if same_text kind word_writeimage then writeimage_answer line else
    if same_text kind word_board then board_answer line else
    bad_line

unfoldable pub four_words : List ℕ → List ℕ → Texts
four_words kind line =
    if same_text kind word_look then look_answer line else
    bad_line

unfoldable pub five_words : List ℕ → List ℕ → Texts
five_words kind line =
    if same_text kind word_start then start_answer line else
    if same_text kind word_fill then fill_answer line else
    bad_line

unfoldable pub seven_words : List ℕ → List ℕ → Texts
seven_words kind line =
    if same_text kind word_writetrace then writetrace_answer line else
    bad_line

unfoldable pub of_words : ℕ → List ℕ → List ℕ → Texts
of_words n kind line =
    if n =? 2 then two_words kind line else
    if n =? 3 then three_words kind line else
    if n =? 4 then four_words kind line else
    if n =? 5 then five_words kind line else
    if n =? 7 then seven_words kind line else
    bad_line

-- The answer of a line, without its end. A line has one more word than it has spaces.
unfoldable pub line_answer : List ℕ → Texts
line_answer line = of_words (suc (separators 32 line)) (word_of 0 line) line
