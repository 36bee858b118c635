-- Sets of k pages of which at most j are in the layers up to j, for each j: there is one. Assumes nothing.
use Rattle.std.specs.Prelude.{false, ◌⊎◌, ◌≡◌, refl, ℕ, zero, suc, ◌+◌, ◌-◌, ◌≤◌, ◌<◌}
use Rattle.std.proofs.Common.{inl, inr, ⊎_elim, ap, ◌∙◌, add-zero, arith}
use Rattle.paging.specs.Sets.{Pages, ◌∈◌, count, insert}
use Rattle.paging.specs.Layers.{Layered}
use Rattle.paging.specs.Best.{State}
use Rattle.paging.specs.Tests.{truth, clash, isnt, same_or_not, le_or_lt}
use Rattle.paging.specs.Count.{None, count_mono, count_none, count_less, insert_cases, insert_was, count_insert}
use Rattle.paging.specs.Certificate.{upto, upto_in, upto_member, upto_layer, held}

-- A set that fills the slots in use, and has at most j - free pages in the layers up to j, for each j from `free` to k.
pub record Valid (N k : ℕ) (s : State) (C : Pages) : Type 0 where
  pub size : count C N + s.free ≡ k
  pub room : (j : ℕ) → s.free ≤ j → j ≤ k → held N s.layer C j + s.free ≤ j

-- ---- layers are filled: a set that has every page above layer j has a page for each layer above j

module _ {N k f : ℕ} {L : ℕ → ℕ} (lay : Layered N k f L) (D : Pages) (j : ℕ) (lo : f ≤ j) where
  above :
      ((q : ℕ) → q < N → j < L q → q ∈ D) → (d : ℕ) → j + d ≤ k → held N L D j + d ≤ held N L D (j + d)
  above has zero l = rw (add-zero j) (omega arith)
  above has (suc d) l =
      let (q, lq, e) = lay.filled (j + suc d) (omega arith) l in
      omega (arith, above has d (omega arith), grows q lq e)
    where
      grows : (q : ℕ) → q < N → L q ≡ j + suc d → held N L D (j + d) < held N L D (j + suc d)
      grows q lq e =
          count_less
          (upto L D (j + d))
          (upto L D (j + suc d))
          N
          q
          lq
          (isnt (upto L D (j + d) q) (λ u. omega (arith, upto_layer L D (j + d) q u)))
          (upto_in L D (j + suc d) q (has q lq (omega arith)) (omega arith))
          (λ r lr u. upto_in L D (j + suc d) r (upto_member L D (j + d) r u) (omega (arith, upto_layer L D (j + d) r u)))

  pub between :
      (i : ℕ) → j ≤ i → i ≤ k → ((q : ℕ) → q < N → j < L q → q ∈ D) → held N L D j + i ≤ held N L D i + j
  between i le hi has =
      let e : j + (i - j) ≡ i = omega arith in
      omega (arith, rw e at (above has (i - j) (omega arith)))

-- ---- the member of the highest layer

abbrev pub Highest : (ℕ → ℕ) → Pages → ℕ → Type 0
Highest L D n = (q : ℕ) × (q < n) × (q ∈ D) × ((r : ℕ) → r < n → r ∈ D → L r ≤ L q)

highest_more : (L : ℕ → ℕ) (D : Pages) (n : ℕ) → n ∈ D → Highest L D n → Highest L D (suc n)
highest_more L D n e h = ⊎_elim keep take (le_or_lt (L n) (L h.0))
  where
    keep : L n ≤ L h.0 → Highest L D (suc n)
    keep l = (
      h.0,
      omega (arith, h.1),
      h.2,
      λ r lr m. ⊎_elim (λ s. omega (arith, ap L s)) (λ ne. h.3 r (omega arith) m) (same_or_not r n),
    )

    take : L h.0 < L n → Highest L D (suc n)
    take l = (
      n,
      omega arith,
      e,
      λ r lr m. ⊎_elim (λ s. omega (arith, ap L s)) (λ ne. omega (arith, h.3 r (omega arith) m)) (same_or_not r n),
    )

pub highest_of : (L : ℕ → ℕ) (D : Pages) (n : ℕ) → None D n ⊎ Highest L D n
highest_of L D zero = inl (λ q l m. omega arith)
highest_of L D (suc n) = go (truth (D n)) (highest_of L D n)
  where
    go : (n ∈ D) ⊎ (D n ≡ false) → None D n ⊎ Highest L D n → None D (suc n) ⊎ Highest L D (suc n)
    go (inl e) (inr h) = inr (highest_more L D n e h)
    go (inl e) (inl none) = inr (
      n,
      omega arith,
      e,
      λ r lr m. ⊎_elim (λ s. omega (arith, ap L s)) (λ ne. absurd (none r (omega arith) m)) (same_or_not r n),
    )
    go (inr e) (inl none) =
        inl (λ q l m. ⊎_elim (λ s. clash m (ap D s ∙ e)) (λ ne. none q (omega arith) m) (same_or_not q n))
    go (inr e) (inr h) = inr (
      h.0,
      omega (arith, h.1),
      h.2,
      λ r lr m. ⊎_elim (λ s. absurd (clash m (ap D s ∙ e))) (λ ne. h.3 r (omega arith) m) (same_or_not r n),
    )

-- ---- a valid set: a page of each layer that has one

module _ {N k : ℕ} (s : State) (lay : Layered N k s.free s.layer) where
  abbrev L : ℕ → ℕ
  L = s.layer

  -- a page of each of the layers after the first `free`, up to layer free + d
  record OneEach (d : ℕ) : Type 0 where
    set : Pages
    size : count set N ≡ d
    low : (q : ℕ) → q < N → q ∈ set → L q ≤ s.free + d
    room : (j : ℕ) → s.free ≤ j → held N L set j + s.free ≤ j

  one_none : OneEach 0
  one_none =
      record {
        set = λ q. false;
        size = none;
        low = λ q l m. absurd (clash m refl);
        room = λ j lo. omega (arith, count_none (upto L (λ q. false) j) N (λ q l m. clash (upto_member L (λ q. false) j q m) refl));
      }
    where
      none : count (λ q. false) N ≡ 0
      none = count_none (λ q. false) N (λ q l m. clash m refl)

  one_more : (d : ℕ) → s.free + suc d ≤ k → OneEach d → OneEach (suc d)
  one_more d le c =
      let (v, lv, e) = lay.filled (s.free + suc d) (omega arith) le in
      go v lv e
    where
      go : (v : ℕ) → v < N → L v ≡ s.free + suc d → OneEach (suc d)
      go v lv e =
          record {
            set = insert v c.set;
            size = omega (arith, c.size, added);
            low = λ q l m.
                ⊎_elim (λ h. omega (arith, ap L h)) (λ h. omega (arith, c.low q l h)) (insert_cases v c.set q m);
            room = λ j lo. ⊎_elim (high j) (low j lo) (le_or_lt (s.free + suc d) j);
          }
        where
          out : c.set v ≡ false
          out = isnt (c.set v) (λ m. omega (arith, c.low v lv m))

          added : count (insert v c.set) N ≡ count c.set N + 1
          added = count_insert v c.set N lv out

          high : (j : ℕ) → s.free + suc d ≤ j → held N L (insert v c.set) j + s.free ≤ j
          high j h =
              omega (
                arith,
                c.size,
                added,
                count_mono (upto L (insert v c.set) j) (insert v c.set) N (λ q l. upto_member L (insert v c.set) j q),
              )

          low : (j : ℕ) → s.free ≤ j → j < s.free + suc d → held N L (insert v c.set) j + s.free ≤ j
          low j lo h = omega (arith, c.room j lo, count_mono (upto L (insert v c.set) j) (upto L c.set j) N there)
            where
              there : (q : ℕ) → q < N → q ∈ upto L (insert v c.set) j → q ∈ upto L c.set j
              there q l m =
                  let at = upto_layer L (insert v c.set) j q m in
                  upto_in
                  L
                  c.set
                  j
                  q
                  (insert_was v c.set q (λ g. omega (arith, ap L g)) (upto_member L (insert v c.set) j q m))
                  at

  one_each : (d : ℕ) → s.free + d ≤ k → OneEach d
  one_each zero le = one_none
  one_each (suc d) le = one_more d le (one_each d (omega arith))

  pub some_valid : (C : Pages) × Valid N k s C
  some_valid =
      let c = one_each (k - s.free) (omega (arith, lay.few)) in
      (c.set, record { size = omega (arith, c.size, lay.few); room = λ j lo hi. c.room j lo })
