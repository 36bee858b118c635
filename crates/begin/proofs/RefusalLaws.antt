-- What the refusals of a start say, as facts. Assumes nothing.
use Rattle.std.proofs.Math.Bool.{Bool}
use Rattle.std.specs.Prelude.{true, false, List, ◌⊎◌, ◌≡◌, ℕ, ◌≤◌, length, nat_eq}
use Rattle.std.proofs.Common.{inl, inr, sym, ◌∙◌, arith}
use borrow.Author.Tests.{eqb-true, eq-eqb, ne_eqb}
use Rattle.paging.specs.Tests.{truth, clash}
use Rattle.begin.specs.Limits.{pages_fit, slots_fit, limits_refusal}
use Rattle.begin.specs.Begin.{below, different}
use Rattle.begin.specs.Refusals.{list_refusal, start_refusal}
use Rattle.begin.specs.LimitLaws.{Limits, fit_pages, fit_slots}

-- ---- each refusal, from the numbers

module _ (N k : ℕ) (ps : List ℕ) (n : ℕ) (told : n ≡ limits_refusal N k) where
  pub refuse_limits : (n ≡ 0 → ⊥) → n ≡ list_refusal N k ps
  unfolding list_refusal
  refuse_limits ne = rw (ne_eqb (limits_refusal N k) 0 (λ z. ne (told ∙ z))) told

  module _ (z : n ≡ 0) where
    fits : limits_refusal N k ≡ 0
    fits = sym told ∙ z

    pub refuse_entries : (length ps ≡ k → ⊥) → 4 ≡ list_refusal N k ps
    unfolding list_refusal
    refuse_entries h = rw (fits, ne_eqb (length ps) k h)

module _ (N k : ℕ) (ps : List ℕ) (fits : limits_refusal N k ≡ 0) (e : length ps ≡ k) where
  pub refuse_below : below N ps ≡ false → list_refusal N k ps ≡ 5
  unfolding list_refusal
  refuse_below h = rw (fits, eq-eqb (length ps) k e, h)

  pub refuse_different : below N ps ≡ true → different ps ≡ false → list_refusal N k ps ≡ 6
  unfolding list_refusal
  refuse_different b h = rw (fits, eq-eqb (length ps) k e, b, h)

  pub refuse_nothing : below N ps ≡ true → different ps ≡ true → list_refusal N k ps ≡ 0
  unfolding list_refusal
  refuse_nothing b h = rw (fits, eq-eqb (length ps) k e, b, h)

-- what it means that none of them applies
pub record Listed (N k : ℕ) (ps : List ℕ) : Type 0 where
  pub limits : Limits N k
  pub entries : length ps ≡ k
  pub below_is : below N ps ≡ true
  pub different_is : different ps ≡ true

-- the cases of the list's refusals
module _ (N k : ℕ) (ps : List ℕ) (P : ℕ → Type 0) where
  pub list_cases :
      (pages_fit N ≡ false → P 2) →
      (pages_fit N ≡ true → slots_fit N k ≡ false → P 3) →
      (pages_fit N ≡ true → slots_fit N k ≡ true → nat_eq (length ps) k ≡ false → P 4) →
      (pages_fit N ≡ true → slots_fit N k ≡ true → nat_eq (length ps) k ≡ true → below N ps ≡ false → P 5) →
      (pages_fit N ≡ true → slots_fit N k ≡ true → nat_eq (length ps) k ≡ true → below N ps ≡ true → different ps ≡ false → P 6) →
      (pages_fit N ≡ true → slots_fit N k ≡ true → nat_eq (length ps) k ≡ true → below N ps ≡ true → different ps ≡ true → P 0) →
      P (list_refusal N k ps)
  unfolding list_refusal limits_refusal
  list_cases two three four five six none =
      go (truth (pages_fit N)) (truth (slots_fit N k)) (truth (nat_eq (length ps) k)) (truth (below N ps)) (truth (different ps))
    where
      Test : Bool → Type 0
      Test b = (b ≡ true) ⊎ (b ≡ false)

      go : Test (pages_fit N) → Test (slots_fit N k) → Test (nat_eq (length ps) k) → Test (below N ps) → Test (different ps) → P (list_refusal N k ps)
      go (inr a) b c d e = rw a (two a)
      go (inl a) (inr b) c d e = rw (a, b) (three a b)
      go (inl a) (inl b) (inr c) d e = rw (a, b, c) (four a b c)
      go (inl a) (inl b) (inl c) (inr d) e = rw (a, b, c, d) (five a b c d)
      go (inl a) (inl b) (inl c) (inl d) (inr e) = rw (a, b, c, d, e) (six a b c d e)
      go (inl a) (inl b) (inl c) (inl d) (inl e) = rw (a, b, c, d, e) (none a b c d e)

pub listed_start : (N k : ℕ) (ps : List ℕ) → list_refusal N k ps ≡ 0 → Listed N k ps
listed_start N k ps =
    list_cases
    N
    k
    ps
    (λ n. n ≡ 0 → Listed N k ps)
    (λ a z. absurd (omega arith))
    (λ a b z. absurd (omega arith))
    (λ a b c z. absurd (omega arith))
    (λ a b c d z. absurd (omega arith))
    (λ a b c d e z. absurd (omega arith))
    (λ a b c d e z.
    let p = fit_pages N a in
    let s = fit_slots N k b in
    record {
      limits = (p.0, p.1, s.0, s.1, s.2);
      entries = eqb-true (length ps) k c;
      below_is = d;
      different_is = e;
    })

pub refusal_small : (N k : ℕ) (ps : List ℕ) → list_refusal N k ps ≤ 6
refusal_small N k ps =
    list_cases
    N
    k
    ps
    (λ n. n ≤ 6)
    (λ a. omega arith)
    (λ a b. omega arith)
    (λ a b c. omega arith)
    (λ a b c d. omega arith)
    (λ a b c d e. omega arith)
    (λ a b c d e. omega arith)

pub begun_layers :
    (N k : ℕ) (ps : List ℕ) →
    list_refusal N k ps ≡ 0 →
    (N ≤ 1024) × (length ps ≤ 64) × (below N ps ≡ true) × (different ps ≡ true)
begun_layers N k ps ok =
    let w = listed_start N k ps ok in
    (w.limits.1, omega (arith, w.entries, w.limits.3), w.below_is, w.different_is)

pub begun_slots : (N k : ℕ) (ps : List ℕ) → list_refusal N k ps ≡ 0 → (k ≤ 64) × (length ps ≡ k)
begun_slots N k ps ok =
    let w = listed_start N k ps ok in
    (w.limits.3, w.entries)

-- ---- the priorities, after the list

module _ (N k : ℕ) (ps : List ℕ) (priorities n : ℕ) (told : n ≡ list_refusal N k ps) where
  pub refuse_list : (n ≡ 0 → ⊥) → n ≡ start_refusal N k ps priorities
  unfolding start_refusal
  refuse_list ne = rw (ne_eqb (list_refusal N k ps) 0 (λ z. ne (told ∙ z))) told

  module _ (z : n ≡ 0) where
    none : list_refusal N k ps ≡ 0
    none = sym told ∙ z

    pub refuse_priorities : (priorities ≡ N → ⊥) → 7 ≡ start_refusal N k ps priorities
    unfolding start_refusal
    refuse_priorities ne = rw (none, ne_eqb priorities N ne)

    pub refuse_none : priorities ≡ N → 0 ≡ start_refusal N k ps priorities
    unfolding start_refusal
    refuse_none e = rw (none, eq-eqb priorities N e)

-- what it means that none applies
pub start_allowed : (N k : ℕ) (ps : List ℕ) (priorities : ℕ) → start_refusal N k ps priorities ≡ 0 → (list_refusal N k ps ≡ 0) × (priorities ≡ N)
unfolding start_refusal
start_allowed N k ps priorities h = go (truth (nat_eq (list_refusal N k ps) 0)) (truth (nat_eq priorities N))
  where
    Test : Bool → Type 0
    Test b = (b ≡ true) ⊎ (b ≡ false)

    go : Test (nat_eq (list_refusal N k ps) 0) → Test (nat_eq priorities N) → (list_refusal N k ps ≡ 0) × (priorities ≡ N)
    go (inr a) b = let z : list_refusal N k ps ≡ 0 = rw a at h in (z, absurd (clash_at a z))
      where
        clash_at : nat_eq (list_refusal N k ps) 0 ≡ false → list_refusal N k ps ≡ 0 → ⊥
        clash_at a z = clash (eq-eqb (list_refusal N k ps) 0 z) a
    go (inl a) (inr b) = absurd (omega (arith, rw (a, b) at h))
    go (inl a) (inl b) = (eqb-true (list_refusal N k ps) 0 a, eqb-true priorities N b)
