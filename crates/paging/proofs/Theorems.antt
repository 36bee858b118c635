-- The main theorems of paging, as a reader may cite them. M is a cached set: a set with the same pages as the selection.
-- Assumes nothing.
use Rattle.std.specs.Prelude.{Bool, true, false, List, ◌↔◌, ◌≡◌, refl, ℕ, ◌+◌, ◌≤◌, ◌<◌}
use Rattle.std.proofs.Math.Option.{Option, some}
use Rattle.std.proofs.Math.Path.{Path}
use Rattle.std.proofs.Common.{arith}
use Rattle.paging.specs.Sets.{Pages, ◌∈◌, Same, count, remove, insert}
use Rattle.paging.specs.Ranking.{Ranking, Agrees}
use Rattle.paging.specs.Layers.{StartList, start_layer, next, Layered}
use Rattle.paging.specs.Selection.{chosen}
use Rattle.paging.specs.Victim.{reach, victim}
use Rattle.paging.specs.Schedule.{Below, end, Least, Ends}
use Rattle.paging.specs.Best.{State, after, seen, Start, start, cold}
use Rattle.paging.proofs.Moves.{next_layered}
use Rattle.paging.specs.LayerSets.{New, Known}
use Rattle.paging.proofs.LayerSets.{request_known, request_new}
use Rattle.paging.specs.Certificate.{held, Justified, same_held, same_justified}
use Rattle.paging.specs.Unique.{unique, first_in}
use Rattle.paging.proofs.Chosen.{chosen_justified}
use Rattle.paging.proofs.Update.{hit_justified, miss_justified}
use Rattle.paging.proofs.Found.{victim_found, victim_evicts}
use Rattle.paging.proofs.Lower.{none_fewer, after_paid, after_layered, after_full, start_paid}
use Rattle.paging.specs.Choice.{Valid, some_valid}
use Rattle.paging.proofs.Upper.{reached}
use Rattle.paging.proofs.Begin.{start_of, cold_start}

-- ---- The layers after a request are layered again: every layer 1 to k has a page, layer k exactly one.

pub layers_stay : (N k p : ℕ) (L : ℕ → ℕ) → 0 < k → p < N → Layered N k 0 L → Layered N k 0 (next k p L)
layers_stay N k p L pos pN lay = next_layered N k p L pos lay pN

-- and they are set by set those that document 01 prints.
pub layers_known :
    (N k p : ℕ) (L : ℕ → ℕ) → 0 < k → p < N → Layered N k 0 L → 0 < L p → Known N k (L p) p L (next k p L)
layers_known N k p L pos pN lay known = request_known N k p L pos lay pN known

pub layers_new : (N k p : ℕ) (L : ℕ → ℕ) → 0 < k → p < N → Layered N k 0 L → L p ≡ 0 → New N k p L (next k p L)
layers_new N k p L pos pN lay new = request_new N k p L pos lay pN new

-- ---- The cached set is the selection exactly where it is justified, and two justified sets are equal.

module _ (N k : ℕ) (o : ℕ → ℕ → Bool) (L : ℕ → ℕ) (rank : Ranking N o) (lay : Layered N k 0 L) where
  pub selection_justified : (M : Pages) → Same N (chosen N o L k) M ↔ Justified N k L o M
  selection_justified M = (
    λ same. same_justified N k L o (chosen N o L k) M same (chosen_justified N k o L rank lay),
    λ just. unique N k L o rank (chosen N o L k) M (chosen_justified N k o L rank lay) just,
  )

  pub justified_unique : (S T : Pages) → Justified N k L o S → Justified N k L o T → Same N S T
  justified_unique S T = unique N k L o rank S T

  -- A page that outranks all others is cached, unless it is in L_0.
  pub highest_cached :
      (p : ℕ) → p < N → chosen N o L k p ≡ false → ((r : ℕ) → r < N → (r ≡ p → ⊥) → o p r ≡ true) → L p ≡ 0
  highest_cached p l e all = first_in N k L o rank (chosen N o L k) (chosen_justified N k o L rank lay) p l e all

-- ---- From the selection before a request to the selection after it. The ranking may change at the requested page alone.

module _
    (N k p : ℕ)
    (o o' : ℕ → ℕ → Bool)
    (L : ℕ → ℕ)
    (M : Pages)
    (pos : 0 < k)
    (rank : Ranking N o)
    (rank' : Ranking N o')
    (agrees : Agrees N p o o')
    (lay : Layered N k 0 L)
    (pN : p < N)
    (cached : Same N (chosen N o L k) M)
  where
    just : Justified N k L o M
    just = (selection_justified N k o L rank lay M).0 cached

    -- After a hit the same set is the selection.
    pub hit_selection : p ∈ M → Same N (chosen N o' (next k p L) k) M
    hit_selection e =
        (selection_justified N k o' (next k p L) rank' (layers_stay N k p L pos pN lay) M
        ).1
        (hit_justified N k p L o o' M pos rank agrees lay pN just e)

    -- A miss always has a victim; where p is in a layer i > 0 it has a j, at the latest j = k;
    pub miss_victim : (v : ℕ) × Path (Option ℕ) (victim N k o L M p) (some v)
    miss_victim = let f = victim_found N k p o L M pos rank lay pN just in (f.page, f.is)

    pub miss_reach : 0 < L p → (j : ℕ) × (j ≤ k) × Path (Option ℕ) (reach N k L M (L p)) (some j)
    miss_reach known =
        let f = victim_found N k p o L M pos rank lay pN just in
        (f.J, f.evicts.within, f.by known)

    -- the victim is cached;
    pub victim_cached : (v : ℕ) → Path (Option ℕ) (victim N k o L M p) (some v) → (v < N) × (v ∈ M)
    victim_cached v e =
        let (J, w) = victim_evicts N k p o L M pos rank lay pN just v e in
        (w.page, w.member)

    -- and after the miss the set without the victim and with p is the selection.
    pub miss_selection :
        (v : ℕ) →
        M p ≡ false →
        Path (Option ℕ) (victim N k o L M p) (some v) →
        Same N (chosen N o' (next k p L) k) (insert p (remove v M))
    miss_selection v out e =
        let (J, w) = victim_evicts N k p o L M pos rank lay pN just v e in
        (selection_justified N k o' (next k p L) rank' (layers_stay N k p L pos pN lay) (insert p (remove v M))
        ).1
        (miss_justified N k p L o o' M pos rank agrees lay pN just J v out w)

-- ---- best is the least number of loads: some schedule has exactly best loads and none has fewer. No priority is mentioned.

module _ {N k : ℕ} (s : State) (pos : 0 < k) (st : Start N k s) (ps : List ℕ) (below : Below N ps) where
  pub best_least : Least N k (seen s.layer) ps (after k s ps).best
  best_least =
      let (C, v) = some_valid (after k s ps) (after_layered s ps pos below st.layered) in
      let (Ts, serves, load, ends) = reached s st ps C pos below v in
      record { some = (Ts, serves, load); none_fewer = λ Us u. none_fewer s st ps Us pos below u }

  -- Every cheapest end: a set that fills the slots in use is the end of a schedule with best loads exactly where it is valid.
  pub ends_valid :
      (C : Pages) →
      count C N + (after k s ps).free ≡ k →
      Ends N k (seen s.layer) ps (after k s ps).best C ↔ Valid N k (after k s ps) C
  ends_valid C size = (λ e. record { size = size; room = room e }, λ v. reached s st ps C pos below v)
    where
      room :
          Ends N k (seen s.layer) ps (after k s ps).best C →
          (j : ℕ) →
          (after k s ps).free ≤ j →
          j ≤ k →
          held N (after k s ps).layer C j + (after k s ps).free ≤ j
      room e j lo hi =
          let (Ts, serves, load, ends) = e in
          omega (
            arith,
            load,
            same_held N (after k s ps).layer (end (seen s.layer) Ts) C ends j,
            after_paid s (seen s.layer) 0 ps Ts pos below st.layered (start_paid s st) serves j lo hi,
          )

-- For document 01's start of k different pages:
module _ (N k : ℕ) (list ps : List ℕ) (pos : 0 < k) (good : StartList N k list) (below : Below N ps) where
  pub start_least : Least N k (seen (start_layer list)) ps (after k (start list) ps).best
  start_least = best_least (start list) pos (start_of list good pos) ps below

  -- a set of k pages is the end of a schedule with best loads if and only if, for every i from 0 to k, at most i of its pages
  -- lie in layers 0 to i.
  pub start_ends :
      (C : Pages) →
      count C N ≡ k →
      Ends N k (seen (start_layer list)) ps (after k (start list) ps).best C
      ↔ ((i : ℕ) → i ≤ k → held N (after k (start list) ps).layer C i ≤ i)
  start_ends C size = (
    λ e i hi. omega (arith, (both.0 e).room i (omega (arith, full)) hi),
    λ room. both.1 (record { size = omega (arith, full); room = λ i lo hi. omega (arith, full, room i hi) }),
  )
    where
      full : (after k (start list) ps).free ≡ 0
      full = after_full k (start list) ps refl

      both : Ends N k (seen (start_layer list)) ps (after k (start list) ps).best C ↔ Valid N k (after k (start list) ps) C
      both = ends_valid (start list) pos (start_of list good pos) ps below C (omega (arith, full))

-- For a start with k free slots: schedules that start with no page.
pub cold_least : (N k : ℕ) (ps : List ℕ) → 0 < k → Below N ps → Least N k (seen (λ q. 0)) ps (after k (cold k) ps).best
cold_least N k ps pos below = best_least (cold k) pos (cold_start N k) ps below
