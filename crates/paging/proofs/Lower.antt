-- The lower bound: every schedule loads at least `best` pages. Assumes nothing.
use Rattle.std.specs.Prelude.{false, List, [], ◌∷◌, ◌≡◌, refl, ℕ, zero, suc, ◌+◌, ◌≤◌, ◌<◌, nat_lt}
use Rattle.std.proofs.Common.{inl, inr, ⊎_elim, ap, subst, add-zero, arith, eq-eqb, eqb-true, leb-true, le-leb}
use Rattle.paging.specs.Sets.{Pages, ◌∈◌, count, without}
use Rattle.paging.specs.Layers.{in_layer, Layered}
use Rattle.paging.specs.Schedule.{Below, Serves, loads, end}
use Rattle.paging.specs.Best.{State, serve, after, seen, Start}
use Rattle.paging.specs.Tests.{truth, le_or_lt}
use Rattle.paging.specs.Count.{single, count_mono, count_cover, count_disjoint, count_none, count_single, single_inside}
use Rattle.paging.specs.Count.{count_pos, count_one, without_in}
use Rattle.paging.proofs.Moves.{Moved, moved_cases, serve_cases, serve_layered}
use Rattle.paging.specs.Certificate.{upto, upto_in, upto_member, upto_layer, held}

-- A set S reached with c loads: where it has more pages of the low layers than they have room for, it has paid for each.
abbrev pub Paid : ℕ → ℕ → State → Pages → ℕ → Type 0
Paid N k s S c = (j : ℕ) → s.free ≤ j → j ≤ k → s.best + held N s.layer S j + s.free ≤ c + j

-- ---- one request: from the set S to the set T, with p in T

module _
    {N k : ℕ}
    (s : State)
    (S : Pages)
    (c : ℕ)
    (lay : Layered N k s.free s.layer)
    (ih : Paid N k s S c)
    (T : Pages)
    (p : ℕ)
    (pN : p < N)
    (has : p ∈ T)
  where
    loaded : (j : ℕ) → held N s.layer T j ≤ held N s.layer S j + count (without T S) N
    loaded j =
        count_cover
        (upto s.layer T j)
        (upto s.layer S j)
        (without T S)
        N
        (λ q l m.
        ⊎_elim
        (λ e. inl (upto_in s.layer S j q e (upto_layer s.layer T j q m)))
        (λ e. inr (without_in T S q (upto_member s.layer T j q m) e))
        (truth (S q)))

    -- The move of the pages from layer t on.
    module _ (t : ℕ) (L' : ℕ → ℕ) (mv : Moved N k t p s.layer L') where
      -- where p came from a layer up to i, and the pages up to layer j now from layers up to i, there was one page more
      one_more : (i j : ℕ) → j < k → s.layer p ≤ i → ((q : ℕ) → q < N → L' q ≤ j → s.layer q ≤ i) →
          held N L' T j + 1 ≤ held N s.layer T i
      one_more i j jk low from = omega (arith, count_single p N pN, apart)
        where
          -- p is above layer j now
          not_p : (q : ℕ) → q ∈ upto L' T j → q ≡ p → ⊥
          not_p q m e = omega (arith, upto_layer L' T j q m, ap L' e, mv.top)

          apart : held N L' T j + count (single p) N ≤ held N s.layer T i
          apart =
              count_disjoint
              (upto L' T j)
              (single p)
              (upto s.layer T i)
              N
              (λ q l m. upto_in s.layer T i q (upto_member L' T j q m) (from q l (upto_layer L' T j q m)))
              (single_inside p N (upto s.layer T i) (upto_in s.layer T i p has low))
              (λ q l m e. not_p q m (eqb-true q p e))

      -- from layer t on the pages come from one layer higher, and below t from where they are
      from_above : (j : ℕ) → t ≤ j + 1 → (q : ℕ) → q < N → s.layer p ≤ j + 1 → L' q ≤ j → s.layer q ≤ j + 1
      from_above j tj q l low h = ⊎_elim (λ g. omega arith) (λ g. omega arith) (moved_cases mv q l)

      from_below : (j : ℕ) → j + 1 < t → j < k → (q : ℕ) → q < N → L' q ≤ j → s.layer q ≤ j
      from_below j tj jk q l h = ⊎_elim (λ g. omega arith) (λ g. omega arith) (moved_cases mv q l)

      whole : held N L' T k ≤ held N s.layer T k
      whole =
          count_mono
          (upto L' T k)
          (upto s.layer T k)
          N
          (λ q l m. upto_in s.layer T k q (upto_member L' T k q m) (lay.bounded q l))

      deep : (j : ℕ) → j + 1 < t → j < k → held N L' T j ≤ held N s.layer T j
      deep j tj jk =
          count_mono
          (upto L' T j)
          (upto s.layer T j)
          N
          (λ q l m. upto_in s.layer T j q (upto_member L' T j q m) (from_below j tj jk q l (upto_layer L' T j q m)))

      -- p was in layer t, or in layer 0 and takes a free slot
      sunk_paid :
          s.layer p ≤ t →
          (j : ℕ) →
          j ≤ k →
          s.free ≤ j + 1 →
          (j + 1 < t → s.free ≤ j) →
          s.best + held N L' T j + s.free ≤ c + count (without T S) N + j
      sunk_paid low j hi near under =
          ⊎_elim
          (λ top. at_top (omega arith))
          (λ inner. ⊎_elim (high inner) (λ d. omega (arith, deep j d inner, loaded j, ih j (under d) hi)) (le_or_lt t (j + 1)))
          (le_or_lt k j)
        where
          at_top : j ≡ k → s.best + held N L' T j + s.free ≤ c + count (without T S) N + j
          at_top e = rw e (omega (arith, whole, loaded k, ih k lay.few (omega arith)))

          high : j < k → t ≤ j + 1 → s.best + held N L' T j + s.free ≤ c + count (without T S) N + j
          high inner d =
              let p_low : s.layer p ≤ j + 1 = omega arith in
              omega
              (arith, loaded (j + 1), ih (j + 1) near (omega arith), one_more (j + 1) j inner p_low (λ q l h. from_above j d q l p_low h))

      -- p was in layer 0 and no slot is free: T has a page there, for which it has paid
      new_pays : s.layer p ≡ 0 → s.free ≡ 0 → s.best + 1 ≤ c + count (without T S) N
      new_pays e z =
          omega (
            arith,
            loaded 0,
            ih 0 (omega arith) (omega arith),
            count_pos (upto s.layer T 0) N p pN (upto_in s.layer T 0 p has (omega arith)),
          )

      new_paid : t ≡ k → s.layer p ≡ 0 → s.free ≡ 0 → count T N ≤ k → (j : ℕ) → j ≤ k →
          s.best + 1 + held N L' T j ≤ c + count (without T S) N + j
      new_paid tk e z size j hi =
          ⊎_elim
          (λ top. omega (arith, new_pays e z, count_mono (upto L' T j) T N (λ q l. upto_member L' T j q)))
          (λ inner. ⊎_elim (λ last. under_top inner last) (λ low. below inner low) (le_or_lt k (j + 1)))
          (le_or_lt k j)
        where
          -- below layer k - 1 the pages are where they were, but for p, which left
          below : j < k → j + 1 < k → s.best + 1 + held N L' T j ≤ c + count (without T S) N + j
          below inner low =
              omega (
                arith,
                loaded j,
                ih j (omega arith) hi,
                one_more j j inner (omega arith) (λ q l h. from_below j (omega arith) inner q l h),
              )

          under_top : j < k → k ≤ j + 1 → s.best + 1 + held N L' T j ≤ c + count (without T S) N + j
          under_top inner last =
              omega (
                arith,
                new_pays e z,
                one_more k j inner (omega arith) (λ q l h. lay.bounded q l),
                count_mono (upto s.layer T k) T N (λ q l. upto_member s.layer T k q),
              )

    pub serve_paid : 0 < k → count T N ≤ k → Paid N k (serve k s p) T (c + count (without T S) N)
    serve_paid pos size =
        serve_cases
        s
        p
        (λ u. Paid N k u T (c + count (without T S) N))
        pos
        lay
        (λ L' hit mv j lo hi. sunk_paid (s.layer p) L' mv (omega arith) j hi (omega arith) (λ _. lo))
        (λ L' e z mv j lo hi. omega (arith, new_paid k L' mv refl e z size j hi))
        (λ L' e f mv j lo hi. omega (arith, sunk_paid 1 L' mv (omega arith) j hi (omega arith) (λ g. absurd (omega arith))))

-- ---- all requests

pub after_paid :
    {N k : ℕ} (s : State) (S : Pages) (c : ℕ) (ps : List ℕ) (Ts : List Pages) →
    0 < k →
    Below N ps →
    Layered N k s.free s.layer →
    Paid N k s S c →
    Serves N k ps Ts →
    Paid N k (after k s ps) (end S Ts) (c + loads N S Ts)
unfolding after end loads
after_paid s S c [] [] pos below lay paid serves = rw (add-zero c) paid
after_paid s S c [] (T ∷ Ts) pos below lay paid serves = absurd serves
after_paid s S c (p ∷ ps) [] pos below lay paid serves = absurd serves
after_paid {N} {k} s S c (p ∷ ps) (T ∷ Ts) pos below lay paid serves =
    subst
    (λ (d : ℕ). Paid N k (after k (serve k s p) ps) (end T Ts) d)
    (omega arith)
    (after_paid
    (serve k s p)
    T
    (c + count (without T S) N)
    ps
    Ts
    pos
    below.1
    (serve_layered s p pos below.0 lay)
    (serve_paid s S c lay paid T p below.0 serves.1 pos serves.0)
    serves.2)

pub after_layered :
    {N k : ℕ} (s : State) (ps : List ℕ) →
    0 < k →
    Below N ps →
    Layered N k s.free s.layer →
    Layered N k (after k s ps).free (after k s ps).layer
unfolding after
after_layered s [] pos below lay = lay
after_layered {k = k} s (p ∷ ps) pos below lay =
    after_layered (serve k s p) ps pos below.1 (serve_layered s p pos below.0 lay)

-- a full run stays full
serve_full : (k : ℕ) (s : State) (p : ℕ) → s.free ≡ 0 → (serve k s p).free ≡ 0
unfolding serve
serve_full k s p z = ⊎_elim (λ e. rw e z) (λ e. new e) (truth (nat_lt 0 (s.layer p)))
  where
    new : nat_lt 0 (s.layer p) ≡ false → (serve k s p).free ≡ 0
    new e = rw (e, z)

pub after_full : (k : ℕ) (s : State) (ps : List ℕ) → s.free ≡ 0 → (after k s ps).free ≡ 0
unfolding after
after_full k s [] z = z
after_full k s (p ∷ ps) z = after_full k (serve k s p) ps (serve_full k s p z)

-- ---- the start

pub seen_layer : (L : ℕ → ℕ) (q : ℕ) → q ∈ seen L → 0 < L q
unfolding seen
seen_layer L q e = leb-true 1 (L q) e

pub seen_of : (L : ℕ → ℕ) (q : ℕ) → 0 < L q → q ∈ seen L
unfolding seen
seen_of L q h = le-leb 1 (L q) h

module _ {N k : ℕ} (s : State) (st : Start N k s) where
  abbrev L : ℕ → ℕ
  L = s.layer

  abbrev S : Pages
  S = seen s.layer

  -- up to layer `free` no page is seen
  start_none : held N L S s.free ≡ 0
  start_none =
      count_none
      (upto L S s.free)
      N
      (λ q l m.
      let at = upto_layer L S s.free q m in
      omega (arith, st.layered.gap q l (seen_layer L q (upto_member L S s.free q m))))

  -- one layer more, at most one page more
  start_more : (j : ℕ) → held N L S (suc j) ≤ held N L S j + 1
  start_more j = omega (arith, one, cover)
    where
      one : count (in_layer L (suc j)) N ≤ 1
      one =
          count_one
          (in_layer L (suc j))
          N
          (λ q u lq lu m n.
          let a = eqb-true (L q) (suc j) m in
          let b = eqb-true (L u) (suc j) n in
          st.single q u lq lu (omega arith) (omega arith))

      cover : held N L S (suc j) ≤ held N L S j + count (in_layer L (suc j)) N
      cover =
          count_cover
          (upto L S (suc j))
          (upto L S j)
          (in_layer L (suc j))
          N
          (λ q lq m.
          let at = upto_layer L S (suc j) q m in
          ⊎_elim
          (λ h. inl (upto_in L S j q (upto_member L S (suc j) q m) h))
          (λ h. inr (eq-eqb (L q) (suc j) (omega arith)))
          (le_or_lt (L q) j))

  -- the pages seen at the start fit
  pub start_fits : (j : ℕ) → s.free ≤ j → held N L S j + s.free ≤ j
  start_fits zero lo = let z : s.free ≡ 0 = omega arith in omega (arith, rw z at start_none)
  start_fits (suc j) lo = ⊎_elim (λ h. omega (arith, start_more j, start_fits j h)) here (le_or_lt s.free j)
    where
      here : j < s.free → held N L S (suc j) + s.free ≤ suc j
      here h = let e : s.free ≡ suc j = omega arith in omega (arith, rw e at start_none)

  pub start_paid : Paid N k s S 0
  start_paid j lo hi = omega (arith, st.fresh, start_fits j lo)

  -- Every schedule that starts with the pages seen has at least `best` loads.
  pub none_fewer :
      (ps : List ℕ) (Ts : List Pages) → 0 < k → Below N ps → Serves N k ps Ts → (after k s ps).best ≤ loads N S Ts
  none_fewer ps Ts pos below serves =
      let lay = after_layered s ps pos below st.layered in
      let paid = after_paid s S 0 ps Ts pos below st.layered start_paid serves in
      omega (arith, paid (after k s ps).free (omega arith) lay.few)
