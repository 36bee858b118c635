-- Facts about tests: Booleans, and numbers that are equal, lower or higher. Assumes nothing.
use Rattle.std.specs.Prelude.{Bool, true, false, ◌&&◌, ◌||◌, ◌⊎◌, ◌≡◌, refl, ℕ, zero, suc, ◌≤◌, ◌<◌, nat_eq, nat_le}
use Rattle.std.specs.Bool.{beq}
use Rattle.std.proofs.Common.{inl, inr, ⊎_elim, sym, arith, eqb-true, leb-true, leb-false}
use Rattle.std.proofs.lemmas.Bool.{eqb-false}
use Rattle.paging.specs.Sets.{◌⇒◌, bit}

-- a test is true or false
pub truth : (b : Bool) → (b ≡ true) ⊎ (b ≡ false)
truth true = inl refl
truth false = inr refl

-- a test is not both
pub clash : {b : Bool} → b ≡ true → b ≡ false → ⊥
clash {b} t f = let z : ◌≡◌ {A = ℕ} 0 1 = cc in omega arith

-- a test that cannot be true is false, and the other way round
pub isnt : (b : Bool) → (b ≡ true → ⊥) → b ≡ false
isnt true h = absurd (h refl)
isnt false h = refl

pub is : (b : Bool) → (b ≡ false → ⊥) → b ≡ true
is true h = refl
is false h = absurd (h refl)

-- two tests that are true together are the same
pub same_test : (a b : Bool) → (a ≡ true → b ≡ true) → (b ≡ true → a ≡ true) → a ≡ b
same_test true b f g = sym (f refl)
same_test false true f g = g refl
same_test false false f g = refl

pub and_in : (a b : Bool) → a ≡ true → b ≡ true → a && b ≡ true
and_in a b p q = rw p q

pub and_left : (a b : Bool) → a && b ≡ true → a ≡ true
and_left true b h = refl
and_left false b h = h

pub and_right : (a b : Bool) → a && b ≡ true → b ≡ true
and_right true b h = h
and_right false b h = absurd (clash h refl)

pub or_left : (a b : Bool) → a ≡ true → a || b ≡ true
or_left a b p = rw p

pub or_right : (a b : Bool) → b ≡ true → a || b ≡ true
or_right true b p = refl
or_right false b p = p

pub or_cases : (a b : Bool) → a || b ≡ true → (a ≡ true) ⊎ (b ≡ true)
or_cases true b h = inl refl
or_cases false b h = inr h

pub implies_true : (a b : Bool) → (a ⇒ b) ≡ true → a ≡ true → b ≡ true
implies_true true b e h = e
implies_true false b e h = absurd (clash h refl)

pub implies_in : (a b : Bool) → (a ≡ true → b ≡ true) → (a ⇒ b) ≡ true
implies_in true b h = h refl
implies_in false b h = refl

pub beq_true : (a b : Bool) → beq a b ≡ true → a ≡ b
beq_true true true e = refl
beq_true true false e = absurd (clash e refl)
beq_true false true e = absurd (clash e refl)
beq_true false false e = refl

pub beq_in : (a b : Bool) → a ≡ b → beq a b ≡ true
beq_in true true e = refl
beq_in true false e = absurd (clash refl e)
beq_in false true e = absurd (clash refl (sym e))
beq_in false false e = refl

pub bit_le : (b : Bool) → bit b ≤ 1
bit_le true = omega arith
bit_le false = omega arith

-- two numbers are equal or not; of two numbers one is at most the other
pub same_or_not : (a b : ℕ) → (a ≡ b) ⊎ (a ≡ b → ⊥)
same_or_not a b = ⊎_elim (λ t. inl (eqb-true a b t)) (λ f. inr (eqb-false a b f)) (truth (nat_eq a b))

pub le_or_lt : (a b : ℕ) → (a ≤ b) ⊎ (b < a)
le_or_lt a b = ⊎_elim (λ t. inl (leb-true a b t)) (λ f. inr (leb-false a b f)) (truth (nat_le a b))

-- a positive number has a predecessor, and what is not 0 is positive
pub before : (j : ℕ) → 0 < j → (i : ℕ) × (suc i ≡ j)
before zero h = absurd (omega arith)
before (suc i) h = (i, refl)

pub positive : (n : ℕ) → (n ≡ 0 → ⊥) → 0 < n
positive n h = omega arith
