-- A request for the page p: the set after it, which is justified for the layers after it if the old was. Assumes nothing.
use Rattle.std.specs.Prelude.{Bool, false, ◌≡◌, refl, ℕ, ◌+◌, ◌≤◌, ◌<◌, nat_eq}
use Rattle.std.proofs.Common.{inl, inr, ⊎_elim, ◌∙◌, arith}
use borrow.Author.Tests.{eq-eqb, eqb-true}
use Rattle.paging.specs.Sets.{Pages, ◌∈◌, count, remove, insert}
use Rattle.paging.specs.Ranking.{Ranking, Agrees}
use Rattle.paging.specs.Layers.{next, Layered}
use Rattle.paging.specs.Tests.{clash, isnt, le_or_lt}
use Rattle.paging.specs.Count.{count_same, count_some, First, first_from, remove_in, remove_was, remove_not, count_remove}
use Rattle.paging.specs.Count.{insert_self, insert_in, insert_was}
use Rattle.paging.specs.Moves.{bar}
use Rattle.paging.proofs.Moves.{bar_pos, bar_range, next_moved}
use Rattle.paging.specs.Certificate.{upto, upto_in, upto_member, upto_layer, held, Justified}
use Rattle.paging.specs.Rank.{Leader, flip, leader}
use Rattle.paging.proofs.Replace.{Swapped, Lowest, Replaced, replaced_justified}

-- ---- the new set

-- p for v
abbrev pub swap : ℕ → ℕ → Pages → ℕ → Bool
swap p v m = insert p (remove v m)

swap_swapped : (p v : ℕ) (m : Pages) → Swapped p v m (swap p v m)
swap_swapped p v m =
    record {
      comes = insert_self p (remove v m);
      stays = λ q nv e. insert_in p (remove v m) q (remove_in v m q e nv);
      was = λ q np e. remove_was v m q (insert_was p (remove v m) q np e);
      goes = λ np. isnt (swap p v m v) (λ e. remove_not v m v (insert_was p (remove v m) v np e) refl);
    }

hit_swapped : (p : ℕ) (m : Pages) → p ∈ m → Swapped p p m m
hit_swapped p m e = record { comes = e; stays = λ q nv u. u; was = λ q np u. u; goes = λ np. absurd (np refl) }

-- a justified set has no page of layer 0
pub no_zero : (N k : ℕ) (L : ℕ → ℕ) (o : ℕ → ℕ → Bool) (m : Pages) → Justified N k L o m → (q : ℕ) → q < N → q ∈ m → 0 < L q
no_zero N k L o m just q l e = ⊎_elim (λ h. absurd (omega (arith, one h, just.fits 0 (omega arith)))) (λ h. h) (le_or_lt (L q) 0)
  where
    one : L q ≤ 0 → held N L m 0 ≡ count (remove q (upto L m 0)) N + 1
    one h = count_remove q (upto L m 0) N l (upto_in L m 0 q e h)

-- Which page makes room for p: the lowest-ranking one, v, of the first full layers from `bar` on, those up to J.
pub record Evicts (N k p : ℕ) (L : ℕ → ℕ) (o : ℕ → ℕ → Bool) (m : Pages) (J v : ℕ) : Type 0 where
  pub from : bar k (L p) ≤ J
  pub within : J ≤ k
  pub first : (j : ℕ) → bar k (L p) ≤ j → j < J → held N L m j ≡ j → ⊥
  pub page : v < N
  pub member : v ∈ m
  pub layer : L v ≤ J
  pub lowest : Lowest N L o m J v

module _
    (N k p : ℕ)
    (L : ℕ → ℕ)
    (o o' : ℕ → ℕ → Bool)
    (m : Pages)
    (k_pos : 0 < k)
    (ord : Ranking N o)
    (agrees : Agrees N p o o')
    (lay : Layered N k 0 L)
    (pN : p < N)
    (just : Justified N k L o m)
  where
    pub hit_replaced : p ∈ m → Replaced N k (bar k (L p)) (bar k (L p)) p p L (next k p L) o o' m m
    hit_replaced e =
        let pos = no_zero N k L o m just p pN e in
        let b = bar_pos k (L p) pos in
        let fit = bar_range k (L p) k_pos (lay.bounded p pN) in
        record {
          t_pos = fit.0;
          t_J = omega arith;
          J_k = fit.1;
          page = pN;
          moved = next_moved N k p L k_pos lay.bounded;
          swapped = hit_swapped p m e;
          rank = agrees;
          v_page = pN;
          v_in = e;
          v_J = omega arith;
          p_in = λ u. refl;
          loose = λ j a c d. omega arith;
          choice = inl (refl, omega arith);
        }

    -- a hit changes no page
    pub hit_justified : p ∈ m → Justified N k (next k p L) o' m
    hit_justified e =
        replaced_justified
        N
        k
        (bar k (L p))
        (bar k (L p))
        p
        p
        L
        (next k p L)
        o
        o'
        m
        m
        ord.transitive
        (hit_replaced e)
        just

    pub miss_replaced : (J v : ℕ) → m p ≡ false → Evicts N k p L o m J v → Replaced N k (bar k (L p)) J p v L (next k p L) o o' m (swap p v m)
    miss_replaced J v e w =
        record {
          t_pos = (bar_range k (L p) k_pos (lay.bounded p pN)).0;
          t_J = w.from;
          J_k = w.within;
          page = pN;
          moved = next_moved N k p L k_pos lay.bounded;
          swapped = swap_swapped p v m;
          rank = agrees;
          v_page = w.page;
          v_in = w.member;
          v_J = w.layer;
          p_in = λ u. absurd (clash u e);
          loose = w.first;
          choice = inr w.lowest;
        }

    -- a miss puts p in the place of the victim
    pub miss_justified : (J v : ℕ) → m p ≡ false → Evicts N k p L o m J v → Justified N k (next k p L) o' (swap p v m)
    miss_justified J v e w =
        replaced_justified
        N
        k
        (bar k (L p))
        J
        p
        v
        L
        (next k p L)
        o
        o'
        m
        (swap p v m)
        ord.transitive
        (miss_replaced J v e w)
        just

-- ---- the victim

-- all of m is in the layers up to k
pub held_top : (N k : ℕ) (L : ℕ → ℕ) (m : Pages) → ((q : ℕ) → q < N → L q ≤ k) → held N L m k ≡ count m N
held_top N k L m bounded =
    count_same (upto L m k) m N (λ q l. upto_member L m k q) (λ q l e. upto_in L m k q e (bounded q l))

module _
    (N k p : ℕ)
    (L : ℕ → ℕ)
    (o : ℕ → ℕ → Bool)
    (m : Pages)
    (k_pos : 0 < k)
    (lay : Layered N k 0 L)
    (pN : p < N)
    (just : Justified N k L o m)
  where
    top_full : held N L m k ≡ k
    top_full = held_top N k L m lay.bounded ∙ just.size

    full_layers : Pages
    full_layers j = nat_eq (held N L m j) j

    first_full : (J : ℕ) × (J ≤ k) × First full_layers (bar k (L p)) J
    unfolding full_layers
    first_full =
        first_from full_layers (bar k (L p)) k (bar_range k (L p) k_pos (lay.bounded p pN)).1 (eq-eqb (held N L m k) k top_full)

    -- a victim from its parts
    found : (J v : ℕ) → J ≤ k → First full_layers (bar k (L p)) J → Leader (λ a b. o b a) (upto L m J) N v → Evicts N k p L o m J v
    unfolding full_layers
    found J v Jk fst low =
        record {
          from = fst.from;
          within = Jk;
          first = λ j a c d. clash (eq-eqb (held N L m j) j d) (fst.before_it j a c);
          page = low.page;
          member = upto_member L m J v low.member;
          layer = upto_layer L m J v low.member;
          lowest =
              record {
                full = eqb-true (held N L m J) J fst.member;
                below = λ r lr u h ne. low.outranks r lr (upto_in L m J r u h) ne;
              };
        }

    -- there is one
    pub some_victim : Ranking N o → (J : ℕ) × ((v : ℕ) × Evicts N k p L o m J v)
    unfolding full_layers
    some_victim ord =
        let (J, Jk, fst) = first_full in
        let full = eqb-true (held N L m J) J fst.member in
        let (x, l, e) = count_some (upto L m J) N (omega (arith, fst.from, bar_range k (L p) k_pos (lay.bounded p pN))) in
        let (v, low) = leader N (λ a b. o b a) (flip N o ord) (upto L m J) N x (omega arith) l e in
        (J, (v, found J v Jk fst low))
