-- What a request does to a sound run: the run after it is sound, so that the cached set is the selection after every request;
-- a miss finds its victim. Assumes nothing.
use Rattle.std.specs.Prelude.{false, List, ◌≡◌, refl, length, set, nat_eq, slice_index_or}
use Rattle.std.proofs.Math.Logic.{⊎_elim}
use Rattle.std.proofs.Math.Option
use Rattle.std.proofs.Math.Option.{Option, some}
use Rattle.std.proofs.Math.Path.{Path, sym, subst, fun_ext}
use Rattle.std.proofs.Common.{ap, ◌∙◌, arith, get_or-set_same, get_or-set_other, ne_eqb}
use Prim.Native.Nat.{ℕ, ◌+◌, ◌≤◌, ◌<◌}
use Rattle.std.proofs.Math.ListN.{get_or-eq_default}
use Rattle.run.specs.declared.Run.{Run}
use Rattle.paging.specs.Sets.{◌∈◌, Same, bit, count, remove, insert, table}
use Rattle.paging.specs.Ranking.{Ranking}
use Rattle.paging.specs.Layers.{in_layer, next, Layered}
use Rattle.paging.specs.Selection.{chosen}
use Rattle.paging.specs.Tests.{clash, same_test, bit_le, same_or_not, le_or_lt}
use Rattle.paging.specs.Count.{remove_in, remove_was, remove_not, insert_self, insert_in, insert_cases}
use Rattle.paging.specs.Tables.{table_at, table_past}
use Rattle.paging.proofs.Moves.{next_zero}
use Rattle.paging.proofs.Update.{no_zero}
use Rattle.paging.proofs.Theorems.{layers_stay, selection_justified, hit_selection, miss_victim, victim_cached}
use Rattle.paging.proofs.Theorems.{miss_selection}
use Rattle.ranking.proofs.Order.{outranks_ranking}
use Rattle.slots.specs.Slots.{no_page, seated}
use Rattle.slots.specs.Laws.{seated_in, seated_was, seat_some, seat_found}
use Rattle.begin.specs.Limits.{most_pages}
use Rattle.counts.specs.Counts.{most_served, more}
use Rattle.run.specs.Numbers.{layer, priority, in_slot, ranks}
use Rattle.run.specs.Cached.{cached, slot_of, selection, victim_of}
use Rattle.run.specs.Sound.{Sound}
use Rattle.run.specs.Request.{counted, next_run}
use Rattle.run.proofs.SoundLaws.{run_layered}

-- ---- what a sound run is to the theory

module _ (r : Run) (w : Sound r) where
  pub run_ranking : Ranking r.pages (ranks r)
  run_ranking = outranks_ranking r.pages (priority r)

  pub run_cached : Same r.pages (selection r) (cached r)
  run_cached q l = sym (w.chosen q l)

  -- the slot of a cached page holds it
  pub slot_holds : (q : ℕ) → q ∈ cached r → (slot_of r q < r.slots) × (in_slot r (slot_of r q) ≡ q)
  slot_holds q e =
      let (s, p) = seat_found r.held r.slots q e in
      let at : slot_of r q ≡ s = ap (λ (x : Option ℕ). Option.get_or x 0) p in
      let (l, h) = seat_some r.held r.slots q s p in
      (omega arith, ap (in_slot r) at ∙ h)

  -- and no other does
  pub slot_only : (s q : ℕ) → s < r.slots → in_slot r s ≡ q → slot_of r q ≡ s
  slot_only s q l e =
      let (m, h) = slot_holds q (seated_in r.held r.slots q s l e) in
      w.one (slot_of r q) s m l (h ∙ sym e)

  -- a cached page is in no layer 0
  pub cached_known : (q : ℕ) → q < r.pages → q ∈ cached r → 0 < layer r q
  cached_known =
      no_zero r.pages r.slots (layer r) (ranks r) (cached r) ((selection_justified r.pages r.slots (ranks r) (layer r) run_ranking (run_layered r w) (cached r)).0 run_cached)

-- ---- the run after a request of p

module _ (r : Run) (w : Sound r) (p : ℕ) (pN : p < r.pages) where
  abbrev N : ℕ
  N = r.pages

  abbrev k : ℕ
  k = r.slots

  abbrev L' : ℕ → ℕ
  L' = next r.slots p (layer r)

  lay : Layered r.pages r.slots 0 (layer r)
  lay = run_layered r w

  lay' : Layered r.pages r.slots 0 L'
  lay' = layers_stay N k p (layer r) w.slots.0 pN lay

  -- the new table holds the new layers
  pub counted_layers : (hit miss : ℕ) (held : List ℕ) → layer (counted r p hit miss held) ≡ L'
  unfolding counted next_run more
  counted_layers hit miss held = fun_ext at
    where
      at : (q : ℕ) → slice_index_or (table most_pages N 0 L') q 0 ≡ L' q
      at q =
          ⊎_elim
          (λ h.
          table_past most_pages N 0 L' q h
          ∙ sym (next_zero k p (layer r) q w.slots.0 (λ e. omega arith) (w.no_layer q h)))
          (λ h. table_at most_pages N 0 L' q h)
          (le_or_lt N q)

  -- slots in order
  record Places (held : List ℕ) : Type 0 where
    holds : (s : ℕ) → s < k → slice_index_or held s no_page < N
    one : (s t : ℕ) → s < k → t < k → slice_index_or held s no_page ≡ slice_index_or held t no_page → s ≡ t
    empty : (s : ℕ) → k ≤ s → slice_index_or held s no_page ≡ no_page

  keeps :
      (hit miss : ℕ) (held : List ℕ) →
      hit + miss ≡ 1 →
      r.counts.served < most_served →
      r.counts.best + bit (nat_eq (layer r p) 0) ≤ r.counts.misses + miss →
      Places held →
      Same N (chosen N (ranks r) L' k) (seated held k) →
      Sound (counted r p hit miss held)
  unfolding counted next_run more
  keeps hit miss held one_more room best_ok seats new =
      record {
        pages = w.pages;
        slots = w.slots;
        layers = λ q l. rw (ap (λ (F : ℕ → ℕ). F q) eqL) (lay'.bounded q l);
        filled = λ j a b. subst (λ (F : ℕ → ℕ). (q : ℕ) × (q < N) × (F q ≡ j)) (sym eqL) (lay'.filled j a b);
        last = subst (λ (F : ℕ → ℕ). count (in_layer F k) N ≡ 1) (sym eqL) (lay'.last w.slots.0);
        chosen = λ q l. subst (λ (F : ℕ → ℕ). seated held k q ≡ chosen N (ranks r) F k q) (sym eqL) (sym (new q l));
        holds = seats.holds;
        one = seats.one;
        counts = omega (arith, w.counts);
        served = omega arith;
        best = best_ok;
        no_layer = λ q l. table_past most_pages N 0 L' q l;
        no_priority = w.no_priority;
        empty = seats.empty;
      }
    where
      eqL : layer (counted r p hit miss held) ≡ L'
      eqL = counted_layers hit miss held

  -- a hit changes no slot
  pub hit_sound : p ∈ cached r → r.counts.served < most_served → Sound (counted r p 1 0 r.held)
  hit_sound e room =
      keeps
      1
      0
      r.held
      refl
      room
      best_ok
      (record { holds = w.holds; one = w.one; empty = w.empty })
      (hit_selection N k p (ranks r) (ranks r) (layer r) (cached r) w.slots.0 (run_ranking r w) (run_ranking r w) (λ a b la lb na nb. refl) lay pN (run_cached r w) e)
    where
      best_ok : r.counts.best + bit (nat_eq (layer r p) 0) ≤ r.counts.misses + 0
      best_ok = rw (ne_eqb (layer r p) 0 (λ z. omega (arith, cached_known r w p pN e))) (omega (arith, w.best))

  -- a miss finds its victim, which is cached
  pub victim_there : (v : ℕ) × Path (Option ℕ) (victim_of r p) (some v)
  victim_there =
      miss_victim N k p (ranks r) (ranks r) (layer r) (cached r) w.slots.0 (run_ranking r w) (run_ranking r w) (λ a b la lb na nb. refl) lay pN (run_cached r w)

  pub victim_in : (v : ℕ) → Path (Option ℕ) (victim_of r p) (some v) → (v < N) × (v ∈ cached r)
  victim_in =
      victim_cached N k p (ranks r) (ranks r) (layer r) (cached r) w.slots.0 (run_ranking r w) (run_ranking r w) (λ a b la lb na nb. refl) lay pN (run_cached r w)

  -- the new page takes the victim's slot
  module _ (v : ℕ) (out : cached r p ≡ false) (is : Path (Option ℕ) (victim_of r p) (some v)) where
    abbrev at : ℕ
    at = slot_of r v

    abbrev fresh : List ℕ
    fresh = set r.held at p

    at_slot : at < k
    at_slot = (slot_holds r w v (victim_in v is).1).0

    at_v : in_slot r at ≡ v
    at_v = (slot_holds r w v (victim_in v is).1).1

    long : at < length r.held
    long = ⊎_elim (λ h. absurd (short h)) (λ h. h) (le_or_lt (length r.held) at)
      where
        short : length r.held ≤ at → ⊥
        short h = omega (arith, w.holds at at_slot, get_or-eq_default r.held no_page h, w.pages.1)

    pub fresh_at : slice_index_or fresh at no_page ≡ p
    fresh_at = get_or-set_same r.held at p no_page long

    pub fresh_off : (t : ℕ) → (t ≡ at → ⊥) → slice_index_or fresh t no_page ≡ in_slot r t
    fresh_off t ne = get_or-set_other r.held at t p no_page ne

    -- no slot holds p yet
    not_p : (t : ℕ) → t < k → in_slot r t ≡ p → ⊥
    not_p t l e = clash (seated_in r.held k p t l e) out

    fresh_cases :
        {A : Type 0} (t : ℕ) → (t ≡ at → slice_index_or fresh t no_page ≡ p → A) → ((t ≡ at → ⊥) → slice_index_or fresh t no_page ≡ in_slot r t → A) → A
    fresh_cases t here there =
        ⊎_elim (λ s. here s (ap (λ x. slice_index_or fresh x no_page) s ∙ fresh_at)) (λ s. there s (fresh_off t s)) (same_or_not t at)

    seats : Places fresh
    seats =
        record {
          holds = λ t l. fresh_cases t (λ s e. omega arith) (λ s e. omega (arith, w.holds t l));
          one = one;
          empty = λ t l. fresh_off t (λ s. omega (arith, at_slot)) ∙ w.empty t l;
        }
      where
        one : (s t : ℕ) → s < k → t < k → slice_index_or fresh s no_page ≡ slice_index_or fresh t no_page → s ≡ t
        one s t ls lt e =
            fresh_cases
            s
            (λ a ea. fresh_cases t (λ b eb. a ∙ sym b) (λ b eb. absurd (not_p t lt (sym eb ∙ (sym e ∙ ea)))))
            (λ a ea.
            fresh_cases
            t
            (λ b eb. absurd (not_p s ls (sym ea ∙ (e ∙ eb))))
            (λ b eb. w.one s t ls lt (sym ea ∙ (e ∙ eb))))

    -- so the cached set is the old one without the victim and with p
    pub swapped_set : (q : ℕ) → insert p (remove v (cached r)) q ≡ seated fresh k q
    swapped_set q = same_test (insert p (remove v (cached r)) q) (seated fresh k q) into back
      where
        into : q ∈ insert p (remove v (cached r)) → q ∈ seated fresh k
        into e =
            ⊎_elim
            (λ s. seated_in fresh k q at at_slot (fresh_at ∙ sym s))
            old
            (insert_cases p (remove v (cached r)) q e)
          where
            old : q ∈ remove v (cached r) → q ∈ seated fresh k
            old m =
                let (l, h) = slot_holds r w q (remove_was v (cached r) q m) in
                let off : slot_of r q ≡ at → ⊥ = λ s. remove_not v (cached r) q m (sym h ∙ (ap (in_slot r) s ∙ at_v)) in
                seated_in fresh k q (slot_of r q) l (fresh_off (slot_of r q) off ∙ h)

        back : q ∈ seated fresh k → q ∈ insert p (remove v (cached r))
        back e =
            let (t, l, h) = seated_was fresh k q e in
            fresh_cases t (λ s ep. new (sym ep ∙ h)) (λ ne eo. old t l ne (sym eo ∙ h))
          where
            new : p ≡ q → q ∈ insert p (remove v (cached r))
            new s = subst (λ (x : ℕ). x ∈ insert p (remove v (cached r))) s (insert_self p (remove v (cached r)))

            old : (t : ℕ) → t < k → (t ≡ at → ⊥) → in_slot r t ≡ q → q ∈ insert p (remove v (cached r))
            old t l ne g =
                insert_in
                p
                (remove v (cached r))
                q
                (remove_in v (cached r) q (seated_in r.held k q t l g) (λ s. ne (w.one t at l at_slot (g ∙ (s ∙ sym at_v)))))

    pub miss_sound : r.counts.served < most_served → Sound (counted r p 0 1 fresh)
    miss_sound room =
        keeps
        0
        1
        fresh
        refl
        room
        (omega (arith, w.best, bit_le (nat_eq (layer r p) 0)))
        seats
        (λ q l.
        miss_selection N k p (ranks r) (ranks r) (layer r) (cached r) w.slots.0 (run_ranking r w) (run_ranking r w) (λ a b la lb na nb. refl) lay pN (run_cached r w) v out is q l
        ∙ swapped_set q)
