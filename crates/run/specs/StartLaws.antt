-- A started run is sound, and holds the start pages. Assumes nothing.
use Rattle.std.specs.Prelude.{Bool, true, false, List, ◌⊎◌, ◌≡◌, refl, length, nat_eq, slice_index_or, None}
use Rattle.std.proofs.Common.{inl, inr, ap, ◌∙◌, arith, eqb-true}
use Rattle.std.proofs.Math.Logic.{⊎_elim}
use Rattle.std.proofs.Math.Path.{sym, subst, fun_ext}
use Prim.Native.Nat.{ℕ, ◌≤◌, ◌<◌}
use Rattle.run.specs.declared.Run.{Run}
use Rattle.paging.specs.Sets.{◌∈◌, Same, count, table}
use Rattle.paging.specs.Ranking.{Ranking}
use Rattle.paging.specs.Layers.{in_layer, StartList, start_layer, Layered}
use Rattle.paging.specs.Selection.{chosen}
use Rattle.paging.specs.Best.{seen, start}
use Rattle.paging.specs.Tests.{truth, same_test, le_or_lt}
use Rattle.paging.specs.Tables.{entry_any, table_at, table_past}
use Rattle.paging.specs.Top.{rank}
use Rattle.paging.proofs.Begin.{placed_or, seen_in, seen_was, start_of, start_justified}
use Rattle.paging.proofs.Theorems.{selection_justified}
use Rattle.refusals.specs.Laws.{none_given}
use Rattle.ranking.proofs.Order.{outranks_ranking}
use Rattle.slots.specs.Slots.{no_page}
use Rattle.slots.specs.Laws.{seated_in, seated_was}
use Rattle.begin.specs.Limits.{most_pages, most_slots, pages_fit, slots_fit}
use Rattle.begin.specs.Begin.{below, different, start_layers, start_priorities, start_slots}
use Rattle.counts.specs.Counts.{no_counts}
use Rattle.begin.specs.LimitLaws.{fit_pages, fit_slots}
use Rattle.begin.specs.Laws.{below_true, different_true}
use Rattle.run.specs.Numbers.{layer, priority, in_slot, ranks}
use Rattle.run.specs.Cached.{cached}
use Rattle.run.specs.Sound.{Sound}
use Rattle.run.specs.Start.{start_run, listed_run, started}

start_layer_past : (N : ℕ) (ps : List ℕ) (q : ℕ) → N ≤ q → slice_index_or (start_layers N ps) q 0 ≡ 0
unfolding start_layers
start_layer_past N ps q l = table_past 1024 N 0 (start_layer ps) q l

start_priority_past : (N : ℕ) (pr : List ℕ) (q : ℕ) → N ≤ q → slice_index_or (start_priorities N pr) q 0 ≡ 0
unfolding start_priorities
start_priority_past N pr q l = table_past 1024 N 0 (λ q. slice_index_or pr q 0) q l

module _
    (N k : ℕ)
    (ps pr : List ℕ)
    (pages : (1 ≤ N) × (N ≤ most_pages))
    (slots : (1 ≤ k) × (k ≤ most_slots) × (k ≤ N))
    (list : StartList N k ps)
  where
    abbrev s : Run
    s = listed_run N k ps pr

    slot_at : (t : ℕ) → t < k → in_slot s t ≡ slice_index_or ps t 0
    unfolding start_run no_counts start_slots
    slot_at t l =
        table_at most_slots k no_page (λ t. slice_index_or ps t no_page) t l ∙ entry_any ps t no_page 0 (omega (arith, list.entries))

    slot_past : (t : ℕ) → k ≤ t → in_slot s t ≡ no_page
    unfolding start_run no_counts start_slots
    slot_past t l = table_past most_slots k no_page (λ t. slice_index_or ps t no_page) t l

    -- the table holds the layers of the start
    pub start_layers_are : layer s ≡ start_layer ps
    unfolding start_run no_counts start_layers
    start_layers_are = fun_ext at
      where
        past : (q : ℕ) → N ≤ q → start_layer ps q ≡ 0
        past q h = ⊎_elim (λ c. absurd (omega (arith, c.2, list.below c.0 c.1))) (λ c. c.0) (placed_or ps list q)

        at : (q : ℕ) → slice_index_or (table 1024 N 0 (start_layer ps)) q 0 ≡ start_layer ps q
        at q =
            ⊎_elim
            (λ h. table_past 1024 N 0 (start_layer ps) q h ∙ sym (past q h))
            (λ h. table_at 1024 N 0 (start_layer ps) q h)
            (le_or_lt N q)

    -- the cached pages are those of the list
    pub start_cached : (q : ℕ) → cached s q ≡ seen (start_layer ps) q
    unfolding start_run no_counts
    start_cached q = same_test (cached s q) (seen (start_layer ps) q) there back
      where
        there : q ∈ cached s → q ∈ seen (start_layer ps)
        there e =
            let (t, l, h) = seated_was s.held k q e in
            subst (λ (x : ℕ). x ∈ seen (start_layer ps)) (sym (slot_at t l) ∙ h) (seen_in ps list t l)

        back : q ∈ seen (start_layer ps) → q ∈ cached s
        back e =
            let (t, l, h) = seen_was ps list q e in
            seated_in s.held k q t l (slot_at t l ∙ h)

    lay : Layered N k 0 (start_layer ps)
    lay = (start_of ps list slots.0).layered

    picks : (o : ℕ → ℕ → Bool) → Ranking N o → Same N (chosen N o (start_layer ps) k) (seen (start_layer ps))
    picks o rank =
        (selection_justified N k o (start_layer ps) rank lay (seen (start_layer ps))
        ).1
        (start_justified (start ps) o (start_of ps list slots.0) refl)

    pub start_sound : Sound s
    unfolding start_run no_counts
    start_sound =
        record {
          pages = pages;
          slots = slots;
          layers = λ q l. rw (ap (λ (F : ℕ → ℕ). F q) start_layers_are) (lay.bounded q l);
          filled = λ j a b. subst (λ (F : ℕ → ℕ). (q : ℕ) × (q < N) × (F q ≡ j)) (sym start_layers_are) (lay.filled j a b);
          last = subst (λ (F : ℕ → ℕ). count (in_layer F k) N ≡ 1) (sym start_layers_are) (lay.last slots.0);
          chosen = λ q l.
              subst
              (λ (F : ℕ → ℕ). cached s q ≡ chosen N (ranks s) F k q)
              (sym start_layers_are)
              (start_cached q ∙ sym (picks (ranks s) (outranks_ranking N (priority s)) q l));
          holds = λ t l. omega (arith, slot_at t l, list.below t l);
          one = λ t u lt lu e. list.once t u lt lu (sym (slot_at t lt) ∙ (e ∙ slot_at u lu));
          counts = refl;
          served = omega arith;
          best = omega arith;
          no_layer = start_layer_past N ps;
          no_priority = start_priority_past N pr;
          empty = slot_past;
        }

-- ---- a start that is not refused

-- what the tests of a start say
pub record Accepted (N k : ℕ) (ps pr : List ℕ) : Type 0 where
  pub pages : (1 ≤ N) × (N ≤ most_pages)
  pub slots : (1 ≤ k) × (k ≤ most_slots) × (k ≤ N)
  pub list : StartList N k ps
  pub priorities : length pr ≡ N
  pub run : (started N k ps pr).run ≡ listed_run N k ps pr

pub accepted : (N k : ℕ) (ps pr : List ℕ) → (started N k ps pr).refusal ≡ None → Accepted N k ps pr
unfolding started
accepted N k ps pr h = go (truth (pages_fit N)) (truth (slots_fit N k)) (truth (nat_eq (length ps) k)) (truth (below N ps)) (truth (different ps)) (truth (nat_eq (length pr) N))
  where
    Test : Bool → Type 0
    Test b = (b ≡ true) ⊎ (b ≡ false)

    go : Test (pages_fit N) → Test (slots_fit N k) → Test (nat_eq (length ps) k) → Test (below N ps) → Test (different ps) → Test (nat_eq (length pr) N) → Accepted N k ps pr
    go (inr a) b c d e f = absurd (omega (arith, none_given 2 (rw a at h)))
    go (inl a) (inr b) c d e f = absurd (omega (arith, none_given 3 (rw (a, b) at h)))
    go (inl a) (inl b) (inr c) d e f = absurd (omega (arith, none_given 4 (rw (a, b, c) at h)))
    go (inl a) (inl b) (inl c) (inr d) e f = absurd (omega (arith, none_given 5 (rw (a, b, c, d) at h)))
    go (inl a) (inl b) (inl c) (inl d) (inr e) f = absurd (omega (arith, none_given 6 (rw (a, b, c, d, e) at h)))
    go (inl a) (inl b) (inl c) (inl d) (inl e) (inr f) = absurd (omega (arith, none_given 7 (rw (a, b, c, d, e, f) at h)))
    go (inl a) (inl b) (inl c) (inl d) (inl e) (inl f) =
        let len = eqb-true (length ps) k c in
        record {
          pages = fit_pages N a;
          slots = fit_slots N k b;
          list =
              record {
                entries = len;
                below = λ t l. below_true N ps d t (omega arith);
                once = λ t u lt lu s. different_true ps e t u (omega arith) (omega arith) s;
              };
          priorities = eqb-true (length pr) N f;
          run = rw (a, b, c, d, e, f);
        }

pub started_sound : (N k : ℕ) (ps pr : List ℕ) → (started N k ps pr).refusal ≡ None → Sound (started N k ps pr).run
started_sound N k ps pr h =
    let a = accepted N k ps pr h in
    rw a.run (start_sound N k ps pr a.pages a.slots a.list)
