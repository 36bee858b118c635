-- The order by `outranks` is a ranking of the pages, whatever their priorities. Assumes nothing.
use Rattle.std.specs.Prelude.{true, ◌&&◌, ◌⊎◌, ◌≡◌, ℕ, ◌<◌, nat_eq, nat_lt}
use Rattle.std.proofs.Math.Logic.{inl, inr, ⊎_elim}
use Rattle.std.proofs.Common.{sym, arith}
use borrow.Author.Tests.{ltb-true, lt-ltb, eqb-true, eq-eqb}
use Rattle.paging.specs.Ranking.{Ranking}
use Rattle.paging.specs.Tests.{and_in, and_left, and_right, or_left, or_right, or_cases, le_or_lt}
use Rattle.ranking.specs.Outranks.{outranks, above}

-- what `above` says of the numbers
abbrev pub Above : ℕ → ℕ → ℕ → ℕ → Type 0
Above x a y b = (y < x) ⊎ ((x ≡ y) × (a < b))

module _ (x a y b : ℕ) where
  pub above_true : above x a y b ≡ true → Above x a y b
  unfolding above
  above_true e =
      ⊎_elim
      (λ h. inl (ltb-true y x h))
      (λ h. inr (eqb-true x y (and_left (nat_eq x y) (nat_lt a b) h), ltb-true a b (and_right (nat_eq x y) (nat_lt a b) h)))
      (or_cases (nat_lt y x) (nat_eq x y && nat_lt a b) e)

  pub above_in : Above x a y b → above x a y b ≡ true
  unfolding above
  above_in (inl h) = or_left (nat_lt y x) (nat_eq x y && nat_lt a b) (lt-ltb y x h)
  above_in (inr h) =
      or_right
      (nat_lt y x)
      (nat_eq x y && nat_lt a b)
      (and_in (nat_eq x y) (nat_lt a b) (eq-eqb x y h.0) (lt-ltb a b h.1))

pub outranks_ranking : (N : ℕ) (P : ℕ → ℕ) → Ranking N (outranks P)
outranks_ranking N P =
    record {
      irreflexive = λ a e. ⊎_elim (λ h. omega arith) (λ h. omega arith) (above_true (P a) a (P a) a e);
      transitive = λ a b c p q.
          above_in (P a) a (P c) c (join a b c (above_true (P a) a (P b) b p) (above_true (P b) b (P c) c q));
      total = λ a b la lb ne. either a b ne;
    }
  where
    join : (a b c : ℕ) → Above (P a) a (P b) b → Above (P b) b (P c) c → Above (P a) a (P c) c
    join a b c (inl x) (inl y) = inl (omega arith)
    join a b c (inl x) (inr y) = inl (omega arith)
    join a b c (inr x) (inl y) = inl (omega arith)
    join a b c (inr x) (inr y) = inr (omega arith, omega arith)

    level : (a b : ℕ) → (a ≡ b → ⊥) → P a ≡ P b → (outranks P a b ≡ true) ⊎ (outranks P b a ≡ true)
    level a b ne e =
        ⊎_elim
        (λ h. inl (above_in (P a) a (P b) b (inr (e, omega arith))))
        (λ h. inr (above_in (P b) b (P a) a (inr (sym e, h))))
        (le_or_lt a b)

    either : (a b : ℕ) → (a ≡ b → ⊥) → (outranks P a b ≡ true) ⊎ (outranks P b a ≡ true)
    either a b ne =
        ⊎_elim
        (λ h.
        ⊎_elim
        (λ g. level a b ne (omega arith))
        (λ g. inr (above_in (P b) b (P a) a (inl g)))
        (le_or_lt (P b) (P a)))
        (λ h. inl (above_in (P a) a (P b) b (inl h)))
        (le_or_lt (P a) (P b))
