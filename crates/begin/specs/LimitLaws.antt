-- What the limits say, as facts. Assumes nothing.
use Rattle.std.proofs.Math.Bool.{Bool}
use Rattle.std.specs.Prelude.{true, false, ◌&&◌, ◌⊎◌, ◌≡◌, ℕ, ◌≤◌, nat_le}
use Rattle.std.proofs.Common.{inl, inr, arith, leb-true, le-leb}
use Rattle.paging.specs.Tests.{truth, isnt, and_in, and_left, and_right}
use Rattle.begin.specs.Limits.{most_pages, most_slots, pages_fit, slots_fit, limits_refusal}

abbrev pub Limits : ℕ → ℕ → Type 0
Limits N k = (1 ≤ N) × (N ≤ most_pages) × (1 ≤ k) × (k ≤ most_slots) × (k ≤ N)

pub fit_pages : (N : ℕ) → pages_fit N ≡ true → (1 ≤ N) × (N ≤ most_pages)
unfolding pages_fit
fit_pages N e = (leb-true 1 N (and_left (nat_le 1 N) (nat_le N most_pages) e), leb-true N most_pages (and_right (nat_le 1 N) (nat_le N most_pages) e))

pub fit_slots : (N k : ℕ) → slots_fit N k ≡ true → (1 ≤ k) × (k ≤ most_slots) × (k ≤ N)
unfolding slots_fit
fit_slots N k e =
    let h = and_left (nat_le 1 k && nat_le k most_slots) (nat_le k N) e in (
      leb-true 1 k (and_left (nat_le 1 k) (nat_le k most_slots) h),
      leb-true k most_slots (and_right (nat_le 1 k) (nat_le k most_slots) h),
      leb-true k N (and_right (nat_le 1 k && nat_le k most_slots) (nat_le k N) e),
    )

pub pages_within : (N : ℕ) → 1 ≤ N → N ≤ most_pages → pages_fit N ≡ true
unfolding pages_fit
pages_within N a b = and_in (nat_le 1 N) (nat_le N most_pages) (le-leb 1 N a) (le-leb N most_pages b)

pub slots_within : (N k : ℕ) → 1 ≤ k → k ≤ most_slots → k ≤ N → slots_fit N k ≡ true
unfolding slots_fit
slots_within N k a b c =
    and_in
    (nat_le 1 k && nat_le k most_slots)
    (nat_le k N)
    (and_in (nat_le 1 k) (nat_le k most_slots) (le-leb 1 k a) (le-leb k most_slots b))
    (le-leb k N c)

-- each refusal, from the numbers
module _ (N k : ℕ) where
  pub limits_pages : ((1 ≤ N) × (N ≤ most_pages) → ⊥) → 2 ≡ limits_refusal N k
  unfolding limits_refusal
  limits_pages h = rw (isnt (pages_fit N) (λ e. h (fit_pages N e)))

  pub limits_slots :
      1 ≤ N → N ≤ most_pages → ((1 ≤ k) × (k ≤ most_slots) × (k ≤ N) → ⊥) → 3 ≡ limits_refusal N k
  unfolding limits_refusal
  limits_slots a b h = rw (pages_within N a b, isnt (slots_fit N k) (λ e. h (fit_slots N k e)))

  pub limits_none : Limits N k → 0 ≡ limits_refusal N k
  unfolding limits_refusal
  limits_none l = rw (pages_within N l.0 l.1, slots_within N k l.2 l.3 l.4)

  -- what it means that neither applies
  pub limits_hold : limits_refusal N k ≡ 0 → Limits N k
  unfolding limits_refusal
  limits_hold h = go (truth (pages_fit N)) (truth (slots_fit N k))
    where
      Test : Bool → Type 0
      Test b = (b ≡ true) ⊎ (b ≡ false)

      go : Test (pages_fit N) → Test (slots_fit N k) → Limits N k
      go (inr a) b = absurd (omega (arith, rw a at h))
      go (inl a) (inr b) = absurd (omega (arith, rw (a, b) at h))
      go (inl a) (inl b) =
          let p = fit_pages N a in
          let s = fit_slots N k b in
          (p.0, p.1, s.0, s.1, s.2)

-- the numbers that the limits give
pub limits_small : (N k : ℕ) → limits_refusal N k ≤ 3
unfolding limits_refusal
limits_small N k = go (truth (pages_fit N)) (truth (slots_fit N k))
  where
    go : (pages_fit N ≡ true) ⊎ (pages_fit N ≡ false) → (slots_fit N k ≡ true) ⊎ (slots_fit N k ≡ false) → limits_refusal N k ≤ 3
    go (inr a) b = rw a (omega arith)
    go (inl a) (inr b) = rw (a, b) (omega arith)
    go (inl a) (inl b) = rw (a, b) (omega arith)
