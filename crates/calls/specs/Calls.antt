-- The questions about a run, and their answers as texts. Assumes nothing.
use Rattle.refusals.specs.Numbers.{number_in}
use Rattle.std.specs.Prelude.{Bool, true, false, List, [], ◌∷◌, ◌++◌, ℕ, suc, if◌then◌else◌}
use Rattle.paging.specs.Sets.{◌=?◌, bit}
use Rattle.serve.specs.declared.Event.{Event}
use Rattle.serve.specs.declared.Event.TheVariants.{Hit, Miss, Refused}
use Rattle.run.specs.declared.Run.{Run}
use Rattle.run.specs.declared.Started.{Started}
use Rattle.run.specs.declared.Served.{Served}
use Rattle.run.specs.declared.LayerAnswer.{LayerAnswer}
use Rattle.run.specs.declared.CertainAnswer.{CertainAnswer}
use Rattle.run.specs.declared.SelectionAnswer.{SelectionAnswer}
use Rattle.run.specs.Sound.{sound}
use Rattle.run.specs.Start.{started, started_default}
use Rattle.run.specs.Request.{requested, tried}
use Rattle.run.specs.Questions as questions
use Rattle.text.specs.Text.{decimal}
use Rattle.fields.specs.Fields.{word_of, list_texts, same_text}
use Rattle.asked.specs.Asked.{word_default, run_of}
use Rattle.answers.specs.Answers.{Texts, refusal_texts, number_texts, record_texts, event_texts, unless_refused, with_numbers, with_run, with_page, with_start}

-- ---- start N K LIST PRIORITIES, answered `0 RECORD`

unfoldable pub started_texts : Started → Texts
started_texts s = unless_refused (number_in s.refusal) (record_texts s.run)

unfoldable pub given_texts : ℕ → ℕ → List ℕ → List ℕ → Texts
given_texts N k list word = with_numbers word (λ priorities. started_texts (started N k list priorities))

unfoldable pub prioritised_texts : ℕ → ℕ → List ℕ → List ℕ → Texts
prioritised_texts N k list word =
    if same_text word word_default
    then started_texts (started_default N k list)
    else given_texts N k list word

unfoldable pub start_answer : List ℕ → Texts
start_answer line = with_start line (λ N k list. prioritised_texts N k list (word_of 4 line))

-- ---- request RECORD PAGE and trial RECORD PAGE: the event, and of a request the next run

unfoldable pub next_texts : Event → Run → Texts
next_texts (Hit slot) r = record_texts r
next_texts (Miss slot victim) r = record_texts r
next_texts (Refused n) r = []

unfoldable pub served_texts : Served → Texts
served_texts s = event_texts s.event s.best ++ next_texts s.event s.run

unfoldable pub request_answer : List ℕ → Texts
request_answer line = with_page line (λ r p. served_texts (requested r p))

unfoldable pub trial_answer : List ℕ → Texts
trial_answer line = with_page line (λ r p. event_texts (tried r p).event (tried r p).best)

-- ---- layer RECORD PAGE, certain RECORD PAGE: `0 LAYER`, `0 1` or `0 0`

unfoldable pub layer_texts : LayerAnswer → Texts
layer_texts a = unless_refused (number_in a.refusal) (number_texts a.layer)

unfoldable pub layer_answer : List ℕ → Texts
layer_answer line = with_page line (λ r p. layer_texts (questions.layer_answer r p))

unfoldable pub certain_texts : CertainAnswer → Texts
certain_texts a = unless_refused (number_in a.refusal) (number_texts (bit a.certain))

unfoldable pub certain_answer : List ℕ → Texts
certain_answer line = with_page line (λ r p. certain_texts (questions.certain_answer r p))

-- ---- selection RECORD: `0 LIST`, the pages in rising order

-- The pages of a set whose marks begin at a page.
unfoldable pub pages_from : ℕ → List Bool → List ℕ
pages_from q [] = []
pages_from q (true ∷ marks) = q ∷ pages_from (suc q) marks
pages_from q (false ∷ marks) = pages_from (suc q) marks

unfoldable pub pages_of : List Bool → List ℕ
pages_of = pages_from 0

unfoldable pub selection_texts : SelectionAnswer → Texts
selection_texts a = if number_in a.refusal =? 0 then (48 ∷ 32 ∷ []) ∷ list_texts (pages_of a.pages) else refusal_texts (number_in a.refusal)

unfoldable pub selection_answer : List ℕ → Texts
selection_answer line = with_run (run_of (word_of 1 line)) (λ r. selection_texts (questions.selection_answer r))

-- ---- sound RECORD: `1` or `0`

unfoldable pub sound_answer : List ℕ → Texts
sound_answer line = with_run (run_of (word_of 1 line)) (λ r. decimal (bit (sound r)) ∷ [])
