-- The victim of document 01 is found on every miss, and it is the page that `Evicts` asks for. Assumes nothing.
use Rattle.std.specs.Prelude.{Bool, cond, ◌&&◌, ◌≡◌, ℕ, suc, ◌≤◌, ◌<◌, nat_eq, nat_le}
use Rattle.std.proofs.Math.Bool.{true, false}
use Rattle.std.proofs.Math.Option.{Option, some, some-injective}
use Rattle.std.proofs.Math.Path.{Path, refl, sym, ap}
use Rattle.std.proofs.Common.{subst, ◌∙◌, arith}
use borrow.Author.Tests.{eqb-true, eqb-false, eq-eqb, leb-true, le-leb}
use Rattle.paging.specs.Sets.{Pages, ◌∈◌, count, lowest}
use Rattle.paging.specs.Ranking.{Ranking}
use Rattle.paging.specs.Layers.{Layered}
use Rattle.paging.specs.Victim.{cached_to, full, reach, lowest_to, victim}
use Rattle.paging.specs.Tests.{isnt, and_in, and_left, and_right, positive}
use Rattle.paging.specs.Count.{count_same}
use Rattle.paging.specs.Words.{first_some, first_is, lowest_found}
use Rattle.paging.specs.Moves.{bar}
use Rattle.paging.proofs.Moves.{bar_zero, bar_pos}
use Rattle.paging.specs.Certificate.{upto, upto_in, upto_member, upto_layer, held, Justified}
use Rattle.paging.proofs.Update.{no_zero, Evicts, some_victim}

-- ---- the cached pages of layers 1 to j

module _ (L : ℕ → ℕ) (M : Pages) (j q : ℕ) where
  pub cached_to_in : q ∈ M → 0 < L q → L q ≤ j → q ∈ cached_to L M j
  unfolding cached_to
  cached_to_in m a b =
      and_in (M q && nat_le 1 (L q)) (nat_le (L q) j) (and_in (M q) (nat_le 1 (L q)) m (le-leb 1 (L q) a)) (le-leb (L q) j b)

  pub cached_to_member : q ∈ cached_to L M j → q ∈ M
  unfolding cached_to
  cached_to_member e = and_left (M q) (nat_le 1 (L q)) (and_left (M q && nat_le 1 (L q)) (nat_le (L q) j) e)

  pub cached_to_layer : q ∈ cached_to L M j → L q ≤ j
  unfolding cached_to
  cached_to_layer e = leb-true (L q) j (and_right (M q && nat_le 1 (L q)) (nat_le (L q) j) e)

module _ (N k : ℕ) (L : ℕ → ℕ) (o : ℕ → ℕ → Bool) (M : Pages) (just : Justified N k L o M) where
  -- no cached page is in layer 0, so these are the cached pages up to layer j
  pub to_upto : (j q : ℕ) → q ∈ cached_to L M j → q ∈ upto L M j
  to_upto j q e = upto_in L M j q (cached_to_member L M j q e) (cached_to_layer L M j q e)

  pub from_upto : (j q : ℕ) → q < N → q ∈ upto L M j → q ∈ cached_to L M j
  from_upto j q l e =
      let m = upto_member L M j q e in
      cached_to_in L M j q m (no_zero N k L o M just q l m) (upto_layer L M j q e)

  pub count_to : (j : ℕ) → count (cached_to L M j) N ≡ held N L M j
  count_to j = count_same (cached_to L M j) (upto L M j) N (λ q l e. to_upto j q e) (λ q l e. from_upto j q l e)

  pub full_true : (j : ℕ) → full N L M j ≡ true → held N L M j ≡ j
  unfolding full
  full_true j e = sym (count_to j) ∙ eqb-true (count (cached_to L M j) N) j e

  pub full_in : (j : ℕ) → held N L M j ≡ j → full N L M j ≡ true
  unfolding full
  full_in j e = eq-eqb (count (cached_to L M j) N) j (count_to j ∙ e)

-- ---- the victim

pub lowest_at : (N : ℕ) (o : ℕ → ℕ → Bool) (L : ℕ → ℕ) (M : Pages) (j : ℕ) →
    Path (Option ℕ) (lowest_to N o L M (some j)) (lowest N o (cached_to L M j))
unfolding lowest_to
lowest_at N o L M j = refl

module _
    (N k p : ℕ)
    (o : ℕ → ℕ → Bool)
    (L : ℕ → ℕ)
    (M : Pages)
    (k_pos : 0 < k)
    (ord : Ranking N o)
    (lay : Layered N k 0 L)
    (pN : p < N)
    (just : Justified N k L o M)
    (J v : ℕ)
    (w : Evicts N k p L o M J v)
  where
    new_found : L p ≡ 0 → Path (Option ℕ) (lowest N o M) (some v)
    new_found z =
        let b = bar_zero k (L p) z in
        lowest_found
        N
        o
        M
        ord
        v
        (record {
          page = w.page;
          member = w.member;
          below = λ q l m ne. w.lowest.below q l m (omega (arith, lay.bounded q l, w.from)) ne;
        })

    known_found : Path (Option ℕ) (lowest N o (cached_to L M J)) (some v)
    known_found =
        lowest_found
        N
        o
        (cached_to L M J)
        ord
        v
        (record {
          page = w.page;
          member = from_upto N k L o M just J v w.page (upto_in L M J v w.member w.layer);
          below = λ q l m ne. w.lowest.below q l (cached_to_member L M J q m) (cached_to_layer L M J q m) ne;
        })

    -- J is the smallest j with j ≥ i such that layers 1 to j together hold exactly j cached pages
    pub reach_found : 0 < L p → Path (Option ℕ) (reach N k L M (L p)) (some J)
    unfolding reach
    reach_found pos =
        first_is
        (suc k)
        (λ j. nat_le (L p) j && full N L M j)
        J
        (record {
          below = omega (arith, w.within);
          member = and_in (nat_le (L p) J) (full N L M J) (le-leb (L p) J (omega (arith, b, w.from))) (full_in N k L o M just J w.lowest.full);
          none_before = λ j l. isnt (nat_le (L p) j && full N L M j) (early j l);
        })
      where
        b : bar k (L p) ≡ L p
        b = bar_pos k (L p) pos

        early : (j : ℕ) → j < J → nat_le (L p) j && full N L M j ≡ true → ⊥
        early j l e =
            w.first
            j
            (omega (arith, b, leb-true (L p) j (and_left (nat_le (L p) j) (full N L M j) e)))
            l
            (full_true N k L o M just j (and_right (nat_le (L p) j) (full N L M j) e))

    pub evicted_found : Path (Option ℕ) (victim N k o L M p) (some v)
    unfolding victim
    evicted_found = go (nat_eq (L p) 0) refl
      where
        go : (x : Bool) → nat_eq (L p) 0 ≡ x →
            Path (Option ℕ) (cond x (lowest N o M) (lowest_to N o L M (reach N k L M (L p)))) (some v)
        go true e = new_found (eqb-true (L p) 0 e)
        go false e =
            ap (lowest_to N o L M) (reach_found (positive (L p) (eqb-false (L p) 0 e)))
            ∙ (lowest_at N o L M J ∙ known_found)

-- a miss always finds its victim, by a layer that is k at the latest
pub record Found (N k p : ℕ) (o : ℕ → ℕ → Bool) (L : ℕ → ℕ) (M : Pages) : Type 0 where
  pub J : ℕ
  pub page : ℕ
  pub is : Path (Option ℕ) (victim N k o L M p) (some page)
  pub by : 0 < L p → Path (Option ℕ) (reach N k L M (L p)) (some J)
  pub evicts : Evicts N k p L o M J page

pub victim_found :
    (N k p : ℕ) (o : ℕ → ℕ → Bool) (L : ℕ → ℕ) (M : Pages) →
    0 < k →
    Ranking N o →
    Layered N k 0 L →
    p < N →
    Justified N k L o M →
    Found N k p o L M
victim_found N k p o L M k_pos ord lay pN just =
    let (J, (v, w)) = some_victim N k p L o M k_pos lay pN just ord in
    record {
      J = J;
      page = v;
      is = evicted_found N k p o L M k_pos ord lay pN just J v w;
      by = reach_found N k p o L M k_pos ord lay pN just J v w;
      evicts = w;
    }

pub victim_evicts :
    (N k p : ℕ) (o : ℕ → ℕ → Bool) (L : ℕ → ℕ) (M : Pages) →
    0 < k →
    Ranking N o →
    Layered N k 0 L →
    p < N →
    Justified N k L o M →
    (v : ℕ) →
    Path (Option ℕ) (victim N k o L M p) (some v) →
    (J : ℕ) × Evicts N k p L o M J v
victim_evicts N k p o L M k_pos ord lay pN just v e =
    let f = victim_found N k p o L M k_pos ord lay pN just in
    let same = some-injective f.page v (sym f.is ∙ e) in
    (f.J, subst (λ (x : ℕ). Evicts N k p L o M f.J x) same f.evicts)

-- what the search for j finds
pub reach_some :
    (N k : ℕ) (L : ℕ → ℕ) (M : Pages) (i j : ℕ) →
    Path (Option ℕ) (reach N k L M i) (some j) →
    (i ≤ j) × (count (cached_to L M j) N ≡ j)
unfolding reach full
reach_some N k L M i j e =
    let f = first_some (suc k) (λ j. nat_le i j && nat_eq (count (cached_to L M j) N) j) j e in (
      leb-true i j (and_left (nat_le i j) (nat_eq (count (cached_to L M j) N) j) f.member),
      eqb-true (count (cached_to L M j) N) j (and_right (nat_le i j) (nat_eq (count (cached_to L M j) N) j) f.member),
    )
