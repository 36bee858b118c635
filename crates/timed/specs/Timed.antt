-- The misses of a whole trace, and how a loop of requests comes to them. Assumes nothing.
use Rattle.std.specs.Prelude.{List, ◌≡◌, refl, drop, if◌then◌else◌}
use Rattle.std.proofs.Common.{sym, ◌∙◌, ne_eqb}
use Prim.Native.Nat.{ℕ, suc, ◌+◌, ◌≤◌, ◌<◌}
use native.Mathlib.Omega.{arith}
use Rattle.paging.specs.Sets.{◌=?◌}
use Rattle.refusals.specs.Numbers.{number_in}
use Rattle.run.specs.declared.Run.{Run}
use Rattle.run.specs.declared.Served.{Served}
use Rattle.run.specs.Sound.{Sound}
use Rattle.run.specs.Request.{requested}
use Rattle.run.specs.History.{run_after}
use Rattle.trace.specs.declared.Traced.{Traced}
use Rattle.trace.specs.Layout.{trace_refusal, traced, requests_of, requests_in, request_offset, request_word}
use Rattle.trace.specs.Reading.{asked}
use Rattle.trace.proofs.Reading.{asked_next, asked_last}
use Rattle.trace.proofs.Theorems.{accepted_read, read_sound, asked_all, told_refusal}

-- The misses after all requests of a trace; 0 of a refused file.
unfoldable pub trace_misses : List ℕ → ℕ
trace_misses b = if trace_refusal b =? 0 then (run_after (traced b).run (requests_of b)).counts.misses else 0

-- ---- what is read of a file

module _ (b : List ℕ) (t : Traced) (t_is : t ≡ traced b) where
  refusal_is : number_in t.refusal ≡ trace_refusal b
  refusal_is = rw t_is (told_refusal b)

  pub no_misses : (number_in t.refusal ≡ 0 → ⊥) → 0 ≡ trace_misses b
  unfolding trace_misses
  no_misses ne = rw (ne_eqb (trace_refusal b) 0 (λ z. ne (refusal_is ∙ z)))

  module _ (accepted_is : number_in t.refusal ≡ 0) where
    ok : trace_refusal b ≡ 0
    ok = sym refusal_is ∙ accepted_is

    pub sound_start : Sound t.run
    sound_start = rw t_is (read_sound b ok)

    pub all_misses : (n : ℕ) → n ≡ (run_after t.run (asked b t.offset t.requests)).counts.misses → n ≡ trace_misses b
    unfolding trace_misses
    all_misses n e =
        let requests_is : t.requests ≡ requests_in b = rw (t_is, accepted_read b ok) in
        let offset_is : t.offset ≡ request_offset b = rw (t_is, accepted_read b ok) in
        e ∙ (rw (ok, offset_is, requests_is, asked_all b ok, t_is))

-- ---- a loop of requests: what is left of them makes of the run in hand what all make of the start

pub record Going (start : Run) (qs : List ℕ) (n : ℕ) (r : Run) (i : ℕ) : Type 0 where
  pub reached : i ≤ n
  pub left : run_after r (drop i qs) ≡ run_after start qs

module _ (start : Run) (b : List ℕ) (offset n : ℕ) where
  abbrev qs : List ℕ
  qs = asked b offset n

  pub going_first : Going start qs n start 0
  going_first = record { reached = omega arith; left = refl }

  module _ (r : Run) (i : ℕ) (now_is : Going start qs n r i) where
    pub going_next : (p : ℕ) (s : Served) → i < n → p ≡ request_word b offset i → s ≡ requested r p → Going start qs n s.run (i + 1)
    unfolding run_after
    going_next p s l e f =
        let one : i + 1 ≡ suc i = omega arith in
        rw (one, f, e) (record { reached = l; left = rw (asked_next b offset n i l) at now_is.left })

    pub going_last : n ≤ i → r ≡ run_after start qs
    unfolding run_after
    going_last l =
        let end : i ≡ n = omega (arith, now_is.reached) in
        rw (end, asked_last b offset n) at now_is.left
