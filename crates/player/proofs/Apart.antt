-- The answer of a file made of its parts, where they are measured or written one behind the other. Assumes nothing.
use Rattle.std.specs.Prelude.{true, false, List, ◌++◌, ◌≡◌, refl, ℕ, ◌+◌, ◌*◌, ◌≤◌, length}
use Rattle.std.proofs.Common.{sym, ap, ◌∙◌, arith, length-append}
use borrow.Author.Tests.{leb-true}
use Rattle.paging.specs.Sets.{◌≤?◌}
use Rattle.paging.specs.Tables.{listed_length}
use Rattle.words.specs.Words.{put}
use Rattle.words.specs.Laws.{put_put, put_length}
use Rattle.refusals.specs.Numbers.{number_in}
use Rattle.run.specs.declared.Run.{Run}
use Rattle.run.specs.Sound.{Sound}
use Rattle.run.specs.History.{run_after}
use Rattle.trace.specs.declared.Traced.{Traced}
use Rattle.trace.specs.Layout.{request_word, trace_refusal, traced}
use Rattle.trace.specs.Reading.{asked}
use Rattle.trace.proofs.Theorems.{read_header}
use Rattle.text.specs.Text.{first_line, last_line, refused_line}
use Rattle.text.specs.Told.{told_length, told_room, told_bytes}
use Rattle.counts.specs.declared.Counts.{Counts}
use Rattle.replay.specs.declared.Played.{Played}
use Rattle.replay.specs.Told.{event_lines}
use Rattle.player.specs.Answer.{lines, answer_bytes, answer_length, answered}
use Rattle.player.specs.Laws.{last_of, lines_short, lines_are, room, answer_short, refusal_is, refused_bytes, requests_is, sound_start, all_bytes}

-- ---- the lines of requests, and the last line behind them

module _ (start : Run) (b : List ℕ) (offset n : ℕ) where
  abbrev qs : List ℕ
  qs = asked b offset n

  asked_short : length (lines start qs) ≤ 100 * n + 108
  unfolding asked
  asked_short = omega (arith, lines_short start qs, listed_length n (request_word b offset))

  -- of counts that are those after the requests
  module _ (c : Counts) (c_is : c ≡ (run_after start qs).counts) where
    with_last : lines start qs ≡ event_lines start qs ++ last_of c
    with_last = rw c_is (lines_are start qs)

    with_last_length : length (lines start qs) ≡ length (event_lines start qs) + length (last_of c)
    with_last_length = ap length with_last ∙ length-append (event_lines start qs) (last_of c)

  abbrev events_length : length (lines start qs) ≡ length (event_lines start qs) + length (last_of (run_after start qs).counts)
  events_length = with_last_length (run_after start qs).counts refl

  -- measured: nothing is lost in counting
  pub events_counted : (size : ℕ) → n ≤ 30000 → 0 + told_length true (event_lines start qs) ≤ told_room true false size
  unfolding told_length told_room
  events_counted size few = omega (arith, asked_short, events_length)

  module _ (p : Played) (c_is : p.counts ≡ (run_after start qs).counts) (next_is : p.next ≡ 0 + told_length true (event_lines start qs)) where
    pub lines_measured :
        (m : ℕ) → m ≡ length (last_line p.counts.served p.counts.hits p.counts.misses p.counts.best) →
        p.next + m ≡ length (lines start (asked b offset n))
    unfolding told_length
    lines_measured m e = omega (arith, next_is, with_last_length p.counts c_is)

    pub lines_counted :
        (m : ℕ) → m ≡ length (last_line p.counts.served p.counts.hits p.counts.misses p.counts.best) →
        n ≤ 30000 → p.next + m ≤ room
    lines_counted m e few = omega (arith, lines_measured m e, asked_short)

  -- written
  module _ (out : List ℕ) (at : ℕ) (fits : at + length (lines start qs) ≤ length out) where
    events_fit : at + length (event_lines start qs) ≤ length out
    events_fit = omega (arith, fits, events_length)

    module _ (p : Played) (mid : List ℕ) (c_is : p.counts ≡ (run_after start qs).counts) (next_is : p.next ≡ at + told_length true (event_lines start qs)) (mid_is : mid ≡ told_bytes true true out at (event_lines start qs)) where
      abbrev last : List ℕ
      last = last_of p.counts

      pub last_fits : p.next + length (last_line p.counts.served p.counts.hits p.counts.misses p.counts.best) ≤ length mid
      unfolding told_length told_bytes
      last_fits =
          omega (arith, fits, next_is, ap length mid_is, put_length out at (event_lines start qs) events_fit, with_last_length p.counts c_is)

      pub lines_written :
          (end : ℕ) (after : List ℕ) →
          end ≡ p.next + length last →
          after ≡ put mid p.next last →
          (end ≡ at + length (lines start (asked b offset n))) × (after ≡ put out at (lines start (asked b offset n)))
      unfolding told_length told_bytes
      lines_written end after g h = (
        omega (arith, g, next_is, with_last_length p.counts c_is),
        h ∙ (rw (mid_is, next_is, with_last p.counts c_is) (put_put out at (event_lines start qs) last events_fit)),
      )

-- ---- the answer of a file

module _ (b : List ℕ) where
  module _ (t : Traced) (t_is : t ≡ traced b) where
    pub refused_size : (n : ℕ) → (number_in t.refusal ≡ 0 → ⊥) → n ≡ length (refused_line (number_in t.refusal)) → n ≡ length (answer_bytes b)
    refused_size n ne f = f ∙ ap length (refused_bytes b t t_is ne)

    module _ (accepted_is : number_in t.refusal ≡ 0) where
      pub few_requests : t.requests ≤ 30000
      few_requests =
          let ok : trace_refusal b ≡ 0 = sym (refusal_is b t t_is) ∙ accepted_is in
          omega (arith, requests_is b t t_is accepted_is, (read_header b ok).requests)

      abbrev first : List ℕ
      first = first_line t.run.pages t.run.slots t.requests

      abbrev more : List ℕ
      more = lines t.run (asked b t.offset t.requests)

      all_length : length first + length more ≡ length (answer_bytes b)
      all_length = sym (length-append first more) ∙ ap length (all_bytes b t t_is accepted_is)

      pub whole_size : (n m : ℕ) → n ≡ length first → m ≡ length more → n + m ≡ length (answer_bytes b)
      whole_size n m f g = omega (arith, all_length)

      pub size_counted : (n m : ℕ) → n ≡ length first → m ≡ length more → n + m ≤ room
      size_counted n m f g = omega (arith, all_length, answer_short b)

-- ---- the answer of a file in a buffer

module _ (b out : List ℕ) where
  module _ (fits : (length (answer_bytes b) ≤? length out) ≡ true) (t : Traced) (t_is : t ≡ traced b) where
    -- what is written, and how much of it
    abbrev Wrote : ℕ → List ℕ → Type 0
    Wrote n after = (n ≡ answer_length b out) × (after ≡ answered b out)

    h : length (answer_bytes b) ≤ length out
    h = leb-true (length (answer_bytes b)) (length out) fits

    told : (n : ℕ) (after text : List ℕ) → text ≡ answer_bytes b → n ≡ 0 + length text → after ≡ put out 0 text → Wrote n after
    unfolding answer_length answered
    told n after text e f g = (f ∙ (rw (fits, e) (omega arith)), g ∙ rw (fits, e))

    module _ (ne : number_in t.refusal ≡ 0 → ⊥) where
      pub refused_fits : 0 + length (refused_line (number_in t.refusal)) ≤ length out
      refused_fits = omega (arith, h, ap length (refused_bytes b t t_is ne))

      pub refused_answer :
          (n : ℕ) (after : List ℕ) →
          n ≡ 0 + length (refused_line (number_in t.refusal)) →
          after ≡ put out 0 (refused_line (number_in t.refusal)) →
          Wrote n after
      refused_answer n after f g = told n after (refused_line (number_in t.refusal)) (refused_bytes b t t_is ne) f g

    module _ (accepted_is : number_in t.refusal ≡ 0) where
      abbrev start_line : List ℕ
      start_line = first_line t.run.pages t.run.slots t.requests

      abbrev other_lines : List ℕ
      other_lines = lines t.run (asked b t.offset t.requests)

      pub first_fits : 0 + length (first_line t.run.pages t.run.slots t.requests) ≤ length out
      first_fits = omega (arith, h, all_length b t t_is accepted_is)

      module _ (mid : List ℕ) (next : ℕ) (next_is : next ≡ 0 + length start_line) (mid_is : mid ≡ put out 0 start_line) where
        mid_size : length mid ≡ length out
        mid_size = ap length mid_is ∙ put_length out 0 start_line first_fits

        pub lines_fit : Sound t.run × (next + length (lines t.run (asked b t.offset t.requests)) ≤ length mid)
        lines_fit = (sound_start b t t_is accepted_is, omega (arith, h, next_is, mid_size, all_length b t t_is accepted_is))

        pub whole_answer : (n : ℕ) (after : List ℕ) → n ≡ next + length other_lines → after ≡ put mid next other_lines → Wrote n after
        whole_answer n after f g =
            told
            n
            after
            (start_line ++ other_lines)
            (all_bytes b t t_is accepted_is)
            (omega (arith, f, next_is, length-append start_line other_lines))
            (g ∙ (rw (mid_is, next_is) (put_put out 0 start_line other_lines first_fits)))
