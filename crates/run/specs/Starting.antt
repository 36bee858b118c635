-- The answer of a start as the code makes it: its refusal first, then the run. Assumes nothing.
use Rattle.std.specs.Prelude.{true, List, ◌≡◌, refl, ℕ, length, Some, None}
use Rattle.std.proofs.Common.{⊎_elim, sym, ap, ◌∙◌, arith}
use borrow.Author.Tests.{eq-eqb, ne_eqb}
use Rattle.run.specs.declared.Run.{Run}
use Rattle.run.specs.declared.Started.{Started}
use Rattle.paging.specs.Tests.{same_or_not}
use Rattle.paging.specs.Tables.{listed_length}
use Rattle.refusals.specs.declared.Refusal.TheVariants.{Priorities}
use Rattle.refusals.specs.Numbers.{given, number_in}
use Rattle.refusals.specs.Laws.{number_given}
use Rattle.ranking.specs.declared.Ranks.{Ranks}
use Rattle.ranking.specs.Ranks.{fixed_ranks}
use Rattle.ranking.specs.Defaults.{default_priority, default_priorities}
use Rattle.begin.specs.Limits.{pages_fit, slots_fit}
use Rattle.begin.specs.Begin.{start_priorities}
use Rattle.begin.specs.Refusals.{list_refusal, start_refusal}
use Rattle.begin.specs.LimitLaws.{pages_within, slots_within}
use Rattle.begin.proofs.RefusalLaws.{Listed, list_cases, listed_start, refusal_small, refuse_list, refuse_priorities, refuse_none, start_allowed}
use Rattle.run.specs.Numbers.{blank_run}
use Rattle.run.specs.Start.{start_run, listed_run, no_start, started, started_default}

-- a start is refused by its list, by the length of its priorities, or not at all
pub refused_list :
    (N k : ℕ) (ps pr : List ℕ) → (list_refusal N k ps ≡ 0 → ⊥) → started N k ps pr ≡ no_start (list_refusal N k ps)
unfolding started
refused_list N k ps pr =
    list_cases
    N
    k
    ps
    (λ n. (n ≡ 0 → ⊥) → started N k ps pr ≡ no_start n)
    (λ a ne. rw a)
    (λ a b ne. rw (a, b))
    (λ a b c ne. rw (a, b, c))
    (λ a b c d ne. rw (a, b, c, d))
    (λ a b c d e ne. rw (a, b, c, d, e))
    (λ a b c d e ne. absurd (ne refl))

module _ (N k : ℕ) (ps pr : List ℕ) (ok : list_refusal N k ps ≡ 0) where
  w : Listed N k ps
  w = listed_start N k ps ok

  pages : pages_fit N ≡ true
  pages = pages_within N w.limits.0 w.limits.1

  slots : slots_fit N k ≡ true
  slots = slots_within N k w.limits.2 w.limits.3 w.limits.4

  pub refused_priorities : (length pr ≡ N → ⊥) → started N k ps pr ≡ no_start 7
  unfolding started
  refused_priorities ne =
      rw (pages, slots, eq-eqb (length ps) k w.entries, w.below_is, w.different_is, ne_eqb (length pr) N ne)

  pub accepted_start :
      length pr ≡ N → started N k ps pr ≡ record { run = listed_run N k ps pr; refusal = None }
  unfolding started
  accepted_start e =
      rw (pages, slots, eq-eqb (length ps) k w.entries, w.below_is, w.different_is, eq-eqb (length pr) N e)

-- ---- what the code answers

module _ (N k : ℕ) (ps pr : List ℕ) (r : Run) (n : ℕ) (told : n ≡ start_refusal N k ps (length pr)) where
  pub answer_refused : (n ≡ 0 → ⊥) → r ≡ blank_run → record { run = r; refusal = given n } ≡ started N k ps pr
  answer_refused ne e = rw e (⊎_elim listed unlisted (same_or_not (list_refusal N k ps) 0))
    where
      unlisted : (list_refusal N k ps ≡ 0 → ⊥) → no_start n ≡ started N k ps pr
      unlisted h = rw (told ∙ sym (refuse_list N k ps (length pr) (list_refusal N k ps) refl h)) (sym (refused_list N k ps pr h))

      listed : list_refusal N k ps ≡ 0 → no_start n ≡ started N k ps pr
      listed z = ⊎_elim (λ e. absurd (ne (told ∙ sym (refuse_none N k ps (length pr) (list_refusal N k ps) refl z e)))) seven (same_or_not (length pr) N)
        where
          seven : (length pr ≡ N → ⊥) → no_start n ≡ started N k ps pr
          seven h =
              rw (told ∙ sym (refuse_priorities N k ps (length pr) (list_refusal N k ps) refl z h)) (sym (refused_priorities N k ps pr z h))

  pub answer_begun :
      (ranks : Ranks) →
      n ≡ 0 →
      ranks ≡ fixed_ranks (start_priorities N pr) →
      r ≡ start_run N k ps ranks →
      ◌≡◌ {A = Started} (record { run = r; refusal = None }) (started N k ps pr)
  answer_begun ranks z er e =
      let (ok, l) = start_allowed N k ps (length pr) (sym told ∙ z) in
      rw (e, er) (sym (accepted_start N k ps pr ok l))

-- the default list has an entry for each page
pub default_length : (N : ℕ) → length (default_priorities N) ≡ N
unfolding default_priorities
default_length N = listed_length N default_priority

-- so that its refusal is that of as many priorities as pages
pub default_told :
    (N k : ℕ) (ps : List ℕ) (n : ℕ) → n ≡ start_refusal N k ps N → n ≡ start_refusal N k ps (length (default_priorities N))
default_told N k ps n e = e ∙ ap (start_refusal N k ps) (sym (default_length N))

-- A start with the default list is never refused with 7.
pub default_never_7 : (N k : ℕ) (ps : List ℕ) → (started_default N k ps).refusal ≡ Some Priorities → ⊥
unfolding started_default
default_never_7 N k ps h =
    ⊎_elim
    (λ z. omega (arith, ap number_in h, ap answered (accepted_start N k ps (default_priorities N) z (default_length N))))
    (λ ne.
    let small = refusal_small N k ps in
    omega (arith, ap number_in h, small, number_given (list_refusal N k ps) (omega arith), ap answered (refused_list N k ps (default_priorities N) ne)))
    (same_or_not (list_refusal N k ps) 0)
  where
    answered : Started → ℕ
    answered s = number_in s.refusal
