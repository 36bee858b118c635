-- Laws of what the trace program prints: how long it can be, the requests' lines one by one, and the answer of a file. Assumes nothing.
use Rattle.refusals.specs.Numbers.{number_in}
use Rattle.std.specs.Prelude.{Bool, true, false, List, [], ◌∷◌, ◌++◌, ◌≡◌, refl, ℕ, ◌+◌, ◌*◌, ◌≤◌}
use Rattle.std.proofs.Common.{append_assoc, subst, ⊎_elim, sym, ◌∙◌, arith, length-append}
use Rattle.std.proofs.Math.ListN.{length}
use borrow.Author.Tests.{le-leb, leb-true, ne_eqb}
use Rattle.paging.specs.Sets.{◌≤?◌}
use Rattle.paging.specs.Tests.{same_or_not}
use Rattle.paging.specs.Tables.{listed_length}
use Rattle.words.specs.Words.{word_at}
use Rattle.run.specs.declared.Run.{Run}
use Rattle.run.specs.declared.Served.{Served}
use Rattle.run.specs.Sound.{Sound}
use Rattle.run.specs.Request.{requested}
use Rattle.run.specs.History.{run_after}
use Rattle.trace.specs.declared.Traced.{Traced}
use Rattle.trace.specs.Layout.{request_offset, requests_in, requests_of, trace_refusal, traced}
use Rattle.trace.specs.Reading.{asked}
use Rattle.trace.proofs.Theorems.{read_header, accepted_read, read_sound, asked_all, told_refusal}
use Rattle.text.specs.Text.{event_line, first_line, last_line, refused_line}
use Rattle.text.specs.Laws.{event_line_short, first_line_short, last_line_short, refused_line_short}
use Rattle.counts.specs.declared.Counts.{Counts}
use Rattle.replay.specs.declared.Played.{Played}
use Rattle.text.specs.Told.{told_length, told_room, told_bytes}
use Rattle.text.specs.Telling.{Telling, begin, next_room, more}
use Rattle.replay.specs.Told.{event_lines}
use Rattle.player.specs.Answer.{lines, answer_bytes, answer_length, answered}

-- ---- no answer is longer than the room of the longest

pub lines_short : (r : Run) (ps : List ℕ) → length (lines r ps) ≤ 100 * length ps + 108
unfolding lines
lines_short r [] = last_line_short r.counts.served r.counts.hits r.counts.misses r.counts.best
lines_short r (p ∷ ps) =
    let s : Served = requested r p in
    rw length-append (omega (arith, event_line_short p s.event s.best, lines_short s.run ps))

-- At most 30,000 lines of at most 100 bytes, one such line before them and one of at most 108 behind them.
abbrev pub room : ℕ
room = 3000208

pub answer_short : (b : List ℕ) → length (answer_bytes b) ≤ room
unfolding answer_bytes requests_of
answer_short b = ⊎_elim fine bad (same_or_not (trace_refusal b) 0)
  where
    fine : trace_refusal b ≡ 0 → length (answer_bytes b) ≤ room
    fine ok =
        rw (ok, length-append)
        (omega (
          arith,
          first_line_short (traced b).run.pages (traced b).run.slots (traced b).requests,
          lines_short (traced b).run (requests_of b),
          listed_length (requests_in b) (λ i. word_at 2 b (request_offset b + 2 * i)),
          (read_header b ok).requests,
        ))

    bad : (trace_refusal b ≡ 0 → ⊥) → length (answer_bytes b) ≤ room
    bad ne = rw (ne_eqb (trace_refusal b) 0 ne) (omega (arith, refused_line_short (trace_refusal b)))

-- ---- the lines of requests as they are played, and the last line behind them

abbrev pub last_of : Counts → List ℕ
last_of c = last_line c.served c.hits c.misses c.best

pub lines_are : (r : Run) (ps : List ℕ) → lines r ps ≡ event_lines r ps ++ last_of (run_after r ps).counts
unfolding lines event_lines run_after
lines_are r [] = refl
lines_are r (p ∷ ps) =
    let s : Served = requested r p in
    rw (lines_are s.run ps)
    (sym (append_assoc (event_line p s.event s.best) (event_lines s.run ps) (last_of (run_after s.run ps).counts)))

module _ (start : Run) (b : List ℕ) (offset n : ℕ) where
  abbrev qs : List ℕ
  qs = asked b offset n

  module _ (t w : Bool) (out : List ℕ) (at : ℕ) (fits : at + told_length t (lines start qs) ≤ told_room t w (length out)) where
    -- of counts that are those after the requests
    pub begin_lines :
        (c : Counts) → c ≡ (run_after start qs).counts →
        Telling t w out at (lines start qs) out at (event_lines start qs ++ last_line c.served c.hits c.misses c.best)
    begin_lines c c_is =
        subst (Telling t w out at (lines start qs) out at) (rw c_is (lines_are start qs)) (begin t w out at (lines start qs) fits)

    pub events_room : at + told_length t (event_lines start (asked b offset n)) ≤ told_room t w (length out)
    events_room = next_room (event_lines start qs) (last_of (run_after start qs).counts) (begin_lines (run_after start qs).counts refl)

    module _ (p : Played) (mid : List ℕ) (c_is : p.counts ≡ (run_after start qs).counts) (next_is : p.next ≡ at + told_length t (event_lines start qs)) (mid_is : mid ≡ told_bytes t w out at (event_lines start qs)) where
      pub last_left :
          Telling t w out at (lines start (asked b offset n)) mid p.next (last_line p.counts.served p.counts.hits p.counts.misses p.counts.best)
      last_left = more (event_lines start qs) (last_of p.counts) (begin_lines p.counts c_is) next_is mid_is

-- ---- the answer of a file

module _ (b : List ℕ) where
  -- a buffer of the longest answer's size has room for it; of any other the length tells
  pub long_fits : (n : ℕ) → room ≤ n → true ≡ (length (answer_bytes b) ≤? n)
  long_fits n h = sym (le-leb (length (answer_bytes b)) n (omega (arith, answer_short b)))

  -- measured: nothing is lost in counting
  pub answer_counted : (size : ℕ) → 0 + told_length true (answer_bytes b) ≤ told_room true false size
  unfolding told_length told_room
  answer_counted size = omega (arith, answer_short b)

  module _ (t : Traced) (t_is : t ≡ traced b) where
    pub refusal_is : number_in t.refusal ≡ trace_refusal b
    refusal_is = rw t_is (told_refusal b)

    pub refused_bytes : (number_in t.refusal ≡ 0 → ⊥) → refused_line (number_in t.refusal) ≡ answer_bytes b
    unfolding answer_bytes
    refused_bytes ne = rw (refusal_is, ne_eqb (trace_refusal b) 0 (λ z. ne (refusal_is ∙ z)))

    module _ (accepted_is : number_in t.refusal ≡ 0) where
      ok : trace_refusal b ≡ 0
      ok = sym refusal_is ∙ accepted_is

      pub requests_is : t.requests ≡ requests_in b
      requests_is = rw (t_is, accepted_read b ok)

      offset_is : t.offset ≡ request_offset b
      offset_is = rw (t_is, accepted_read b ok)

      pub sound_start : Sound t.run
      sound_start = rw t_is (read_sound b ok)

      pub all_bytes : first_line t.run.pages t.run.slots t.requests ++ lines t.run (asked b t.offset t.requests) ≡ answer_bytes b
      unfolding answer_bytes
      all_bytes = rw (ok, offset_is, requests_is, asked_all b ok, t_is, accepted_read b ok)

      pub begin_answer :
          (u w : Bool) (out : List ℕ) → 0 + told_length u (answer_bytes b) ≤ told_room u w (length out) →
          Telling u w out 0 (answer_bytes b) out 0 (first_line t.run.pages t.run.slots t.requests ++ lines t.run (asked b t.offset t.requests))
      begin_answer u w out h = subst (Telling u w out 0 (answer_bytes b) out 0) (sym all_bytes) (begin u w out 0 (answer_bytes b) h)

-- ---- the answer of a file in a buffer

module _ (b out : List ℕ) where
  pub no_fit : (length (answer_bytes b) ≤? length out) ≡ false → (0 ≡ answer_length b out) × (out ≡ answered b out)
  unfolding answer_length answered
  no_fit e = (rw e, rw e)

  module _ (fits : (length (answer_bytes b) ≤? length out) ≡ true) where
    pub answer_fits : 0 + told_length true (answer_bytes b) ≤ told_room true true (length out)
    unfolding told_length told_room
    answer_fits = omega (arith, leb-true (length (answer_bytes b)) (length out) fits)

    pub answer_told :
        (n : ℕ) (after : List ℕ) →
        n ≡ 0 + told_length true (answer_bytes b) → after ≡ told_bytes true true out 0 (answer_bytes b) →
        (n ≡ answer_length b out) × (after ≡ answered b out)
    unfolding told_length told_bytes answer_length answered
    answer_told n after f g = (rw fits (omega arith), g ∙ rw fits)
