-- The searches of a miss over the slots find what document 01's rule over the pages says. Assumes nothing.
use Rattle.std.specs.Prelude.{Bool, true, ◌&&◌, List, ◌≡◌, refl, ℕ, suc, ◌≤◌, ◌<◌, nat_eq, nat_le, slice_index_or}
use Rattle.std.proofs.Math.Option.{Option, some}
use Rattle.std.proofs.Math.Path.{Path, ap, fun_ext}
use Rattle.std.proofs.Common.{sym, subst, ◌∙◌, arith, eq-eqb, ne_eqb}
use Rattle.paging.specs.Sets.{Pages, ◌∈◌, Same, count, first, lowest}
use Rattle.paging.specs.Selection.{chosen}
use Rattle.paging.specs.Victim.{cached_to, full, reach, lowest_to, victim}
use Rattle.paging.specs.Words.{IsLowest, lowest_found}
use Rattle.paging.specs.Certificate.{Justified}
use Rattle.paging.proofs.Update.{no_zero}
use Rattle.paging.proofs.Found.{cached_to_in, cached_to_member, cached_to_layer, count_to, lowest_at, reach_some}
use Rattle.paging.proofs.Theorems.{selection_justified, miss_reach, victim_cached}
use Rattle.ranking.specs.Key.{Keyed, page_of}
use Rattle.ranking.proofs.KeyLaws.{keyed_apart}
use Rattle.layers.specs.Asked.{layer_at}
use Rattle.slots.specs.Slots.{no_page, seated, found, near_of, keys_of, near_to, least_key}
use Rattle.slots.specs.Laws.{near_at, keys_at, seated_in, seated_was, least_le}
use Rattle.slots.specs.Held.{Seats, near_held, least_slot, near_some}
use Rattle.serve.specs.Step.{Ready, victim_in}

module _
    (N k p : ℕ)
    (o : ℕ → ℕ → Bool)
    (key : ℕ → ℕ)
    (layer held : List ℕ)
    (w : Ready N k p layer held)
    (keyed : Keyed N o key)
    (cached : Same N (chosen N o (layer_at layer) k) (seated held k))
  where
    abbrev L : ℕ → ℕ
    L = layer_at layer

    abbrev M : Pages
    M = seated held k

    abbrev in_slot : ℕ → ℕ
    in_slot s = slice_index_or held s no_page

    abbrev near : List ℕ
    near = near_of layer held k

    abbrev keys : List ℕ
    keys = keys_of key held k

    seats : Seats N k o key held
    seats = record { slots = w.slots.1; holds = w.holds; one = w.one; keyed = keyed }

    just : Justified N k L o M
    just = (selection_justified N k o L keyed.ranking w.layered M).0 cached

    near_is : (s : ℕ) → s < k → slice_index_or near s 0 ≡ L (in_slot s)
    near_is s l = near_at layer held k s l

    seated_layer : (s : ℕ) → s < k → 0 < L (in_slot s)
    seated_layer s l =
        no_zero N k L o M just (in_slot s) (w.holds s l) (seated_in held k (in_slot s) s l refl)

    -- the slots that hold a page of a layer up to j are as many as the cached pages of layers 1 to j,
    near_count : (j : ℕ) → near_to near k j ≡ count (cached_to L M j) N
    near_count j = near_held N k o key layer held seats j ∙ sym (count_to N k L o M just j)

    -- so the search over the slots finds the same j
    pub near_reach : (i : ℕ) → Path (Option ℕ) (first (suc k) (λ j. nat_le i j && nat_eq (near_to near k j) j)) (reach N k L M i)
    unfolding reach full
    near_reach i = ap (first (suc k)) (fun_ext (λ j. ap (λ (n : ℕ). nat_le i j && nat_eq n j) (near_count j)))

    -- ---- the least key up to layer j is that of the lowest-ranking page there

    -- the page of the least key
    abbrev pub lowest_page : ℕ → ℕ
    lowest_page j = page_of (least_key near keys j k)

    -- a page in another slot outranks it
    outranks_lowest :
        (j t u : ℕ) →
        t < k →
        u < k →
        slice_index_or near u 0 ≤ j →
        least_key near keys j k ≡ key (in_slot t) →
        (in_slot u ≡ in_slot t → ⊥) →
        o (in_slot u) (in_slot t) ≡ true
    outranks_lowest j t u lt lu hu e ne =
        (keyed.order (in_slot u) (in_slot t) (w.holds u lu) (w.holds t lt)).0 (omega (arith, least, apart))
      where
        least : key (in_slot t) ≤ key (in_slot u)
        least = omega (arith, e, keys_at key held k u lu, least_le near keys j k u lu hu)

        apart : key (in_slot u) ≡ key (in_slot t) → ⊥
        apart h = ne (keyed_apart N o key keyed (in_slot u) (in_slot t) (w.holds u lu) (w.holds t lt) h)

    -- it is the lowest-ranking page of the set whose pages are those in the slots of layers up to j
    lowest_is :
        (X : Pages) (j : ℕ) →
        ((s : ℕ) → s < k → slice_index_or near s 0 ≤ j → in_slot s ∈ X) →
        ((q : ℕ) → q < N → q ∈ X → (s : ℕ) × (s < k) × (slice_index_or near s 0 ≤ j) × (in_slot s ≡ q)) →
        (s : ℕ) →
        s < k →
        slice_index_or near s 0 ≤ j →
        Path (Option ℕ) (lowest N o X) (some (lowest_page j))
    lowest_is X j into from s l le =
        let (t, lt, ht, page, e) = least_slot N k o key layer held seats j s l le in
        lowest_found N o X keyed.ranking (lowest_page j) (subst (IsLowest N o X) page (at_slot t lt ht e))
      where
        at_slot :
            (t : ℕ) →
            t < k →
            slice_index_or near t 0 ≤ j →
            least_key near keys j k ≡ key (in_slot t) →
            IsLowest N o X (in_slot t)
        at_slot t lt ht e =
            record {
              page = w.holds t lt;
              member = into t lt ht;
              below = λ q lq m ne.
                  let (u, lu, hu, g) = from q lq m in
                  subst
                  (λ (x : ℕ). o x (in_slot t) ≡ true)
                  g
                  (outranks_lowest j t u lt lu hu e (λ s. ne (sym g ∙ s)));
            }

    -- p in L_0: the lowest-ranking cached page, found with j = k
    pub new_victim : L p ≡ 0 → Path (Option ℕ) (victim_in N k p o layer held) (some (lowest_page k))
    unfolding victim
    new_victim z = rw (eq-eqb (L p) 0 z) (lowest_is M k into from 0 w.slots.0 (low 0 w.slots.0))
      where
        low : (s : ℕ) → s < k → slice_index_or near s 0 ≤ k
        low s l = omega (arith, near_is s l, w.layered.bounded (in_slot s) (w.holds s l))

        into : (s : ℕ) → s < k → slice_index_or near s 0 ≤ k → in_slot s ∈ M
        into s l h = seated_in held k (in_slot s) s l refl

        from : (q : ℕ) → q < N → q ∈ M → (s : ℕ) × (s < k) × (slice_index_or near s 0 ≤ k) × (in_slot s ≡ q)
        from q l m =
            let (s, ls, e) = seated_was held k q m in
            (s, ls, low s ls, e)

    -- p in L_i, i > 0: the lowest-ranking cached page of layers 1 to j, with the j that the search finds
    pub known_victim :
        (j : ℕ) →
        0 < L p →
        Path (Option ℕ) (reach N k L M (L p)) (some j) →
        Path (Option ℕ) (victim_in N k p o layer held) (some (lowest_page j))
    unfolding victim
    known_victim j pos found =
        rw (ne_eqb (L p) 0 (λ z. omega arith))
        (ap (lowest_to N o L M) found
        ∙ (lowest_at N o L M j
        ∙ lowest_is (cached_to L M j) j into from some_slot.0 some_slot.1 some_slot.2))
      where
        into : (s : ℕ) → s < k → slice_index_or near s 0 ≤ j → in_slot s ∈ cached_to L M j
        into s l h =
            cached_to_in L M j (in_slot s) (seated_in held k (in_slot s) s l refl) (seated_layer s l) (omega (arith, near_is s l))

        from : (q : ℕ) → q < N → q ∈ cached_to L M j → (s : ℕ) × (s < k) × (slice_index_or near s 0 ≤ j) × (in_slot s ≡ q)
        from q l m =
            let (s, ls, e) = seated_was held k q (cached_to_member L M j q m) in
            (s, ls, omega (arith, near_is s ls, ap L e, cached_to_layer L M j q m), e)

        some_slot : (s : ℕ) × (s < k) × (slice_index_or near s 0 ≤ j)
        some_slot = near_some near k j (omega (arith, reach_some N k L M (L p) j found, near_count j))

    -- a search for a page of a layer above 0 that is not cached always ends
    pub reach_there : 0 < L p → (j : ℕ) × (j ≤ k) × Path (Option ℕ) (reach N k L M (L p)) (some j)
    reach_there pos =
        miss_reach N k p o o L M w.slots.0 keyed.ranking keyed.ranking (λ a b la lb na nb. refl) w.layered w.page cached pos

    -- and the victim is in a slot
    pub victim_seated : (v : ℕ) → Path (Option ℕ) (victim_in N k p o layer held) (some v) → (v < N) × (v ∈ M)
    victim_seated =
        victim_cached N k p o o L M w.slots.0 keyed.ranking keyed.ranking (λ a b la lb na nb. refl) w.layered w.page cached
