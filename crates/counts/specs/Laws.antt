-- What the definitions of Counts say, as facts. Assumes nothing.
use Rattle.std.proofs.Math.Bool.{Bool}
use Rattle.std.specs.Prelude.{true, false, ◌&&◌, ◌⊎◌, ◌↔◌, ◌≡◌, refl, ℕ, ◌+◌, ◌≤◌, ◌<◌, nat_eq, nat_le, nat_lt}
use Rattle.std.proofs.Common.{inl, inr, sym}
use native.Mathlib.Omega.{arith}
use borrow.Author.Tests.{eqb-true, eq-eqb, leb-true, le-leb, lt-ltb, le-ltb, ltb-true}
use Rattle.paging.specs.Sets.{bit}
use Rattle.paging.specs.Tests.{truth, isnt, and_in, and_left, and_right, bit_le}
use Rattle.counts.specs.declared.Counts.{Counts}
use Rattle.serve.specs.declared.Event.TheVariants.{Hit, Miss}
use Rattle.counts.specs.declared.Turn.{Turn}
use Rattle.counts.specs.Counts.{most_served, no_counts, counts_fit, more, turned, page_refusal}

-- The clauses on the counts.
pub record Fit (c : Counts) : Type 0 where
  pub sum : c.hits + c.misses ≡ c.served
  pub few : c.served ≤ most_served
  pub least : c.best ≤ c.misses

module _ (c : Counts) where
  abbrev A : Bool
  A = nat_eq (c.hits + c.misses) c.served

  abbrev B : Bool
  B = nat_le c.served most_served

  abbrev C : Bool
  C = nat_le c.best c.misses

  pub fit_iff : (counts_fit c ≡ true) ↔ Fit c
  unfolding counts_fit
  fit_iff = (
    λ e.
        record {
          sum = eqb-true (c.hits + c.misses) c.served (and_left A B (and_left (A && B) C e));
          few = leb-true c.served most_served (and_right A B (and_left (A && B) C e));
          least = leb-true c.best c.misses (and_right (A && B) C e);
        },
    λ w.
        and_in
        (A && B)
        C
        (and_in A B (eq-eqb (c.hits + c.misses) c.served w.sum) (le-leb c.served most_served w.few))
        (le-leb c.best c.misses w.least),
  )

  -- counts that break a clause
  pub unfit : (Fit c → ⊥) → false ≡ counts_fit c
  unfit h = sym (isnt (counts_fit c) (λ e. h (fit_iff.0 e)))

  -- where the first two hold, the last decides
  pub fit_last : c.hits + c.misses ≡ c.served → c.served ≤ most_served → nat_le c.best c.misses ≡ counts_fit c
  unfolding counts_fit
  fit_last e h = rw (eq-eqb (c.hits + c.misses) c.served e, le-leb c.served most_served h)

  -- no count is at its end
  pub counts_room :
      Fit c →
      c.served < most_served →
      (new x : ℕ) →
      new ≡ bit (nat_eq x 0) →
      (c.served + 1 ≤ 4294967295) × (c.hits + 1 ≤ 4294967295) × (c.misses + 1 ≤ 4294967295) × (c.best + 1 ≤ 4294967295) × (new ≤ 1)
  counts_room w room new x e =
      let s = w.sum in
      let b = w.least in
      let small = bit_le (nat_eq x 0) in
      (omega arith, omega arith, omega arith, omega arith, omega arith)

pub none_fit : Fit no_counts
unfolding no_counts
none_fit = record { sum = refl; few = omega arith; least = omega arith }

-- ---- what the code makes of the counts

module _ (c : Counts) (new : ℕ) where
  pub turned_hit :
      (s : ℕ) →
      ◌≡◌ {A = Turn}
      (record { event = Hit s; best = c.best + new; counts = record { served = c.served + 1; hits = c.hits + 1; misses = c.misses; best = c.best + new } })
      (turned c new (Hit s))
  unfolding turned more
  turned_hit s = let none : c.misses + 0 ≡ c.misses = omega arith in rw none

  pub turned_miss :
      (s v : ℕ) →
      ◌≡◌ {A = Turn}
      (record { event = Miss s v; best = c.best + new; counts = record { served = c.served + 1; hits = c.hits; misses = c.misses + 1; best = c.best + new } })
      (turned c new (Miss s v))
  unfolding turned more
  turned_miss s v = let none : c.hits + 0 ≡ c.hits = omega arith in rw none

-- ---- 8 and 9

module _ (N served p : ℕ) where
  pub number_page : N ≤ p → 8 ≡ page_refusal N served p
  unfolding page_refusal
  number_page h = rw (le-ltb p N h)

  pub number_served : p < N → most_served ≤ served → 9 ≡ page_refusal N served p
  unfolding page_refusal
  number_served l h = rw (lt-ltb p N l, le-ltb served most_served h)

  pub number_none : p < N → served < most_served → 0 ≡ page_refusal N served p
  unfolding page_refusal
  number_none l h = rw (lt-ltb p N l, lt-ltb served most_served h)

  -- what it means that neither applies
  pub number_allowed : page_refusal N served p ≡ 0 → (p < N) × (served < most_served)
  unfolding page_refusal
  number_allowed h = go (truth (nat_lt p N)) (truth (nat_lt served most_served))
    where
      Test : Bool → Type 0
      Test b = (b ≡ true) ⊎ (b ≡ false)

      go : Test (nat_lt p N) → Test (nat_lt served most_served) → (p < N) × (served < most_served)
      go (inr b) c = absurd (omega (arith, rw b at h))
      go (inl b) (inr c) = absurd (omega (arith, rw (b, c) at h))
      go (inl b) (inl c) = (ltb-true p N b, ltb-true served most_served c)
