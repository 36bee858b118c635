-- The questions about frames, files and images, and their answers as texts. Assumes nothing.
use Rattle.refusals.specs.Numbers as refusals
use Rattle.refusals.specs.declared.Refusal.{Refusal}
use Rattle.std.specs.Prelude.{List, ◌++◌, ℕ, if◌then◌else◌, Result, Ok, Err}
use Rattle.ranking.specs.Defaults.{default_priorities}
use Rattle.run.specs.declared.Run.{Run}
use Rattle.run.specs.declared.Restored.{Restored}
use Rattle.run.specs.Stored.{restored, stored, stored_bytes}
use Rattle.frames.specs.Frames.{fill_refusal, filled, look_refusal, looked}
use Rattle.trace.specs.declared.Traced.{Traced}
use Rattle.trace.specs.Layout.{traced, written, written_bytes}
use Rattle.board.specs.Board as board
use Rattle.fields.specs.Fields.{word_of, same_text}
use Rattle.asked.specs.Asked.{word_default, number_in, run_of}
use Rattle.answers.specs.Answers.{Texts, refusal_texts, number_texts, bytes_texts, record_texts, unless_refused, with_number, with_bytes, with_numbers, with_run, with_page, with_start}

-- ---- fill RECORD PAGE AREA BYTES: `0 AREA` afterwards

unfoldable pub filled_texts : Run → ℕ → List ℕ → List ℕ → Texts
filled_texts r p area page = unless_refused (fill_refusal r p area page) (bytes_texts (filled r p area page))

unfoldable pub fill_texts : List ℕ → Run → ℕ → Texts
fill_texts line r p = with_bytes (word_of 3 line) (λ area. with_bytes (word_of 4 line) (λ page. filled_texts r p area page))

unfoldable pub fill_answer : List ℕ → Texts
fill_answer line = with_page line (fill_texts line)

-- ---- look RECORD PAGE AREA: the number, then the part handed back

unfoldable pub looked_texts : Run → ℕ → List ℕ → Texts
looked_texts r p area = refusal_texts (look_refusal r p area) ++ bytes_texts (looked r p area)

unfoldable pub look_answer : List ℕ → Texts
look_answer line = with_page line (λ r p. with_bytes (word_of 3 line) (looked_texts r p))

-- ---- readtrace BYTES: `0 T OFFSET RECORD`

unfoldable pub traced_texts : Traced → Texts
traced_texts t = unless_refused (refusals.number_in t.refusal) (number_texts t.requests ++ (number_texts t.offset ++ record_texts t.run))

unfoldable pub readtrace_answer : List ℕ → Texts
readtrace_answer line = with_bytes (word_of 1 line) (λ file. traced_texts (traced file))

-- ---- writetrace N K LIST PRIORITIES REQUESTS BUFFER: `0 LENGTH BUFFER` afterwards

unfoldable pub written_texts : ℕ → ℕ → List ℕ → Texts
written_texts refusal length buffer = unless_refused refusal (number_texts length ++ bytes_texts buffer)

unfoldable pub trace_texts : ℕ → ℕ → List ℕ → List ℕ → List ℕ → List ℕ → Texts
trace_texts N k list priorities requests buffer =
    written_texts
    (refusals.number_in (written N k list priorities requests buffer).refusal)
    (written N k list priorities requests buffer).length
    (written_bytes N k list priorities requests buffer)

unfoldable pub given_texts : ℕ → ℕ → List ℕ → List ℕ → List ℕ → List ℕ → Texts
given_texts N k list word requests buffer =
    with_numbers word (λ priorities. trace_texts N k list priorities requests buffer)

unfoldable pub prioritised_texts : ℕ → ℕ → List ℕ → List ℕ → List ℕ → List ℕ → Texts
prioritised_texts N k list word requests buffer =
    if same_text word word_default
    then trace_texts N k list (default_priorities N) requests buffer
    else given_texts N k list word requests buffer

unfoldable pub requested_texts : ℕ → ℕ → List ℕ → List ℕ → Texts
requested_texts N k list line =
    with_numbers (word_of 5 line) (λ requests.
    with_bytes (word_of 6 line) (λ buffer.
    prioritised_texts N k list (word_of 4 line) requests buffer))

unfoldable pub writetrace_answer : List ℕ → Texts
writetrace_answer line = with_start line (λ N k list. requested_texts N k list line)

-- ---- readimage BYTES: `0 RECORD`

unfoldable pub reading_texts : Result Unit Refusal → Run → Texts
reading_texts (Ok _) r = refusal_texts 0 ++ record_texts r
reading_texts (Err n) r = refusal_texts (refusals.number n)

unfoldable pub restored_texts : Restored → Texts
restored_texts s = reading_texts s.event s.run

unfoldable pub readimage_answer : List ℕ → Texts
readimage_answer line = with_bytes (word_of 1 line) (λ image. restored_texts (restored image))

-- ---- writeimage RECORD BUFFER: `0 LENGTH BUFFER` afterwards

unfoldable pub stored_texts : Run → List ℕ → Texts
stored_texts r buffer = written_texts (refusals.number_in (stored r buffer).refusal) (stored r buffer).length (stored_bytes r buffer)

unfoldable pub writeimage_answer : List ℕ → Texts
writeimage_answer line = with_run (run_of (word_of 1 line)) (λ r. with_bytes (word_of 2 line) (stored_texts r))

-- ---- board BYTES PAGE: the packed answer as a number, then the bytes afterwards

unfoldable pub boarded_texts : List ℕ → ℕ → Texts
boarded_texts image page = refusal_texts (board.board_answer image page) ++ bytes_texts (board.board_image image page)

unfoldable pub board_answer : List ℕ → Texts
board_answer line = with_bytes (word_of 1 line) (λ image. with_number (number_in (word_of 2 line)) (boarded_texts image))
