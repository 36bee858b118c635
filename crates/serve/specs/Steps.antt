-- What the step leaves on a hit and on a miss is what document 01's rule says. Assumes nothing.
use Rattle.std.specs.Prelude.{Bool, false, List, ◌≡◌, refl, ℕ, ◌<◌, length, set, nat_eq, slice_index_or}
use Rattle.std.proofs.Math.Bool.{true}
use Rattle.std.proofs.Math.Logic.{⊎_elim}
use Rattle.std.proofs.Math.Option
use Rattle.std.proofs.Math.Option.{Option, some}
use Rattle.std.proofs.Math.Path.{Path}
use Rattle.std.proofs.Common.{sym, ap, ◌∙◌, arith, get_or-set_other, ext_get_or}
use Rattle.std.proofs.Math.Seq.{get_or-set_same}
use borrow.Author.Tests.{eqb-true, eqb-false, eq-eqb, ne_eqb, le-ltb}
use Rattle.serve.specs.declared.Event.TheVariants.{Hit, Miss}
use Rattle.paging.specs.Tests.{truth, clash, is, positive, same_or_not, le_or_lt}
use Rattle.paging.specs.Count.{single, single_inside, count_single, count_less}
use Rattle.paging.specs.Layers.{in_layer, asked_known, next}
use Rattle.paging.specs.Moves.{bar}
use Rattle.paging.proofs.Theorems.{miss_victim}
use Rattle.layers.specs.Asked.{layer_at, asked, sunk}
use Rattle.layers.specs.Laws.{asked_length, asked_at, asked_past}
use Rattle.slots.specs.Slots.{no_page, seated, seat, near_of, keys_of}
use Rattle.slots.specs.Laws.{seated_in, seat_some}
use Rattle.serve.specs.Step.{slot, Ready, Ranked, victim_in, missed, replaced, event_of, held_after, least_page, search_to}
use Rattle.serve.specs.Step.{Stepped}
use Rattle.serve.specs.Searches.{near_reach, new_victim, known_victim, reach_there}
use Rattle.serve.specs.After.{near_after, keys_after}

module _
    (N k p : ℕ)
    (o : ℕ → ℕ → Bool)
    (key key' : ℕ → ℕ)
    (layer held keys : List ℕ)
    (new : ℕ)
    (w : Ready N k p layer held)
    (r : Ranked N k p o key key' layer held keys new)
  where
    abbrev L : ℕ → ℕ
    L = layer_at layer

    abbrev from : ℕ
    from = bar k (L p)

    abbrev near : List ℕ
    near = near_of layer held k

    -- the search over the slots finds the victim
    pub victim_found_by_slots :
        Path (Option ℕ) (least_page near (keys_of key held k) k (search_to near k (L p))) (victim_in N k p o layer held)
    unfolding least_page search_to
    victim_found_by_slots = ⊎_elim unknown known (truth (nat_eq (L p) 0))
      where
        unknown : nat_eq (L p) 0 ≡ true → Path (Option ℕ) (least_page near (keys_of key held k) k (search_to near k (L p))) (victim_in N k p o layer held)
        unknown e = rw e (sym (new_victim N k p o key layer held w r.keyed r.cached (eqb-true (L p) 0 e)))

        known : nat_eq (L p) 0 ≡ false → Path (Option ℕ) (least_page near (keys_of key held k) k (search_to near k (L p))) (victim_in N k p o layer held)
        known e =
            let pos = positive (L p) (eqb-false (L p) 0 e) in
            let (j, le, at) = reach_there N k p o key layer held w r.keyed r.cached pos in
            let found = near_reach N k p o key layer held w r.keyed r.cached (L p) ∙ at in
            rw e (ap (least_page near (keys_of key held k) k) found ∙ sym (known_victim N k p o key layer held w r.keyed r.cached j pos at))

    -- there is one, and it is in a slot
    pub victim_is_there : (v : ℕ) × Path (Option ℕ) (victim_in N k p o layer held) (some v)
    victim_is_there =
        miss_victim
        N
        k
        p
        o
        o
        L
        (seated held k)
        w.slots.0
        r.keyed.ranking
        r.keyed.ranking
        (λ a b la lb na nb. refl)
        w.layered
        w.page
        r.cached

    slot_is : (q s : ℕ) → Path (Option ℕ) (seat held k q) (some s) → slot held k q ≡ s
    slot_is q s e = ap (λ (x : Option ℕ). Option.get_or x 0) e

    -- no other slot holds p, where slot s does
    lone :
        (s : ℕ) → s < k → slice_index_or held s no_page ≡ p →
        (t : ℕ) → t < k → (t ≡ s → ⊥) → (slice_index_or held t no_page ≡ slice_index_or held t no_page) × (slice_index_or held t no_page ≡ p → ⊥)
    lone s l at t lt ne = (refl, λ same. ne (w.one t s lt l (same ∙ sym at)))

    -- by slots, the keys after the request: the slot that has p now has its new key
    keys_are :
        (held' : List ℕ) (s : ℕ) →
        s < k →
        slice_index_or held' s no_page ≡ p →
        ((t : ℕ) → t < k → (t ≡ s → ⊥) → (slice_index_or held' t no_page ≡ slice_index_or held t no_page) × (slice_index_or held t no_page ≡ p → ⊥)) →
        set keys s new ≡ keys_of key' held' k
    keys_are held' s l here other =
        rw r.keys_are (keys_after N k p layer held w key key' new r.others r.own held' s l here other)

    -- a hit, in slot s
    pub hit_stepped :
        (s : ℕ) →
        Path (Option ℕ) (seat held k p) (some s) →
        Stepped N k p o key' layer held (Hit s) (asked N k p layer) held (set (sunk from k near) s k) (set keys s new)
    unfolding event_of held_after
    hit_stepped s e =
        let (l, at) = seat_some held k p s e in
        let here = seated_in held k p s l at in
        record {
          event_is = rw (here, slot_is p s e);
          layer_is = refl;
          held_is = rw here;
          near_is = near_after N k p layer held w held s l at (lone s l at);
          keys_is = keys_are held s l at (lone s l at);
          long = w.long.0;
        }

    -- a hit of the page of L_k, which is alone there: nothing moves
    top_stays : L p ≡ k → (q : ℕ) → q < N → next k p L q ≡ L q
    unfolding next asked_known
    top_stays top q l = rw (top, ne_eqb k 0 (λ z. omega (arith, w.slots.0))) (⊎_elim here other (same_or_not q p))
      where
        here : q ≡ p → asked_known k k p L q ≡ L q
        here e = rw (eq-eqb q p e) (sym (ap L e ∙ top))

        lower : (q ≡ p → ⊥) → L q ≡ k → ⊥
        lower ne e =
            let more = count_less (single p) (in_layer L k) N q l (ne_eqb q p ne) (eq-eqb (L q) k e) (single_inside p N (in_layer L k) (eq-eqb (L p) k top)) in
            omega (arith, more, count_single p N w.page, w.layered.last w.slots.0)

        other : (q ≡ p → ⊥) → asked_known k k p L q ≡ L q
        other ne = rw (ne_eqb q p ne, ne_eqb (L q) k (lower ne), le-ltb k (L q) (w.layered.bounded q l))

    top_asked : L p ≡ k → layer ≡ asked N k p layer
    top_asked top =
        sym (ext_get_or 0 (asked N k p layer) layer size (λ q _. ⊎_elim (asked_past N k p layer q) (λ l. asked_at N k p layer q l ∙ top_stays top q l) (le_or_lt N q)))
      where
        size : length (asked N k p layer) ≡ length layer
        size = asked_length N k p layer 1024 w.long.0 w.pages ∙ sym w.long.0

    pub top_stepped :
        (s : ℕ) →
        Path (Option ℕ) (seat held k p) (some s) →
        L p ≡ k →
        Stepped N k p o key' layer held (Hit s) layer held near (set keys s new)
    unfolding event_of held_after
    top_stepped s e top =
        let (l, at) = seat_some held k p s e in
        let here = seated_in held k p s l at in
        record {
          event_is = rw (here, slot_is p s e);
          layer_is = top_asked top;
          held_is = rw here;
          near_is = refl;
          keys_is = keys_are held s l at (lone s l at);
          long = w.long.0;
        }

    -- a miss, whose victim v is in slot s
    pub miss_stepped :
        (v s : ℕ) →
        seated held k p ≡ false →
        Path (Option ℕ) (victim_in N k p o layer held) (some v) →
        Path (Option ℕ) (seat held k v) (some s) →
        Stepped N k p o key' layer held (Miss s v) (asked N k p layer) (set held s p) (set (sunk from k near) s k) (set keys s new)
    unfolding event_of held_after missed replaced
    miss_stepped v s out is e =
        let (l, at) = seat_some held k v s e in
        let here = get_or-set_same held s p no_page (omega (arith, w.long.1, w.slots.1)) in
        record {
          event_is = rw (out, is, slot_is v s e);
          layer_is = refl;
          held_is = rw (out, is, slot_is v s e);
          near_is = near_after N k p layer held w (set held s p) s l here (other s);
          keys_is = keys_are (set held s p) s l here (other s);
          long = w.long.0;
        }
      where
        other :
            (s t : ℕ) → t < k → (t ≡ s → ⊥) →
            (slice_index_or (set held s p) t no_page ≡ slice_index_or held t no_page) × (slice_index_or held t no_page ≡ p → ⊥)
        other s t lt ne = (get_or-set_other held s t p no_page ne, λ same. clash (seated_in held k p t lt same) out)
