-- What a ranking of the pages is: `o a b` says that page a outranks page b. Which ranking it is does not matter here.
-- Assumes nothing.
use Rattle.std.specs.Prelude.{Bool, true, ◌⊎◌, ◌≡◌, ℕ, ◌<◌}

-- A ranking of the pages below N: no page outranks itself, what outranks an outranking page outranks too, and of two pages
-- one outranks the other.
pub record Ranking (N : ℕ) (o : ℕ → ℕ → Bool) : Type 0 where
  pub irreflexive : (a : ℕ) → o a a ≡ true → ⊥
  pub transitive : (a b c : ℕ) → o a b ≡ true → o b c ≡ true → o a c ≡ true
  pub total : (a b : ℕ) → a < N → b < N → (a ≡ b → ⊥) → (o a b ≡ true) ⊎ (o b a ≡ true)

-- Two rankings agree but for the page p, which may be ranked anew.
abbrev pub Agrees : ℕ → ℕ → (ℕ → ℕ → Bool) → (ℕ → ℕ → Bool) → Type 0
Agrees N p o o' = (a b : ℕ) → a < N → b < N → (a ≡ p → ⊥) → (b ≡ p → ⊥) → o' a b ≡ o a b
