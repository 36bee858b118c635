-- The layers after a request, set by set, as document 01 prints the two rules. `L' q ≡ j` says that q is in the new L_j.
-- Assumes nothing.
use Rattle.std.specs.Prelude.{◌⊎◌, ◌↔◌, ◌≡◌, ℕ, suc, ◌+◌, ◌-◌, ◌≤◌, ◌<◌}

-- Request p in L_0.
pub record New (N k p : ℕ) (L L' : ℕ → ℕ) : Type 0 where
  -- L_k = {p};
  pub top : (q : ℕ) → q < N → (L' q ≡ k) ↔ (q ≡ p)
  -- p leaves L_0; L_k joins L_(k-1);
  pub joins : (q : ℕ) → q < N → (L' q ≡ k - 1) ↔ ((q ≡ p → ⊥) × ((L q ≡ k - 1) ⊎ (L q ≡ k)))
  -- every other layer stays, but for p.
  pub stays : (j : ℕ) → suc j < k → (q : ℕ) → q < N → (L' q ≡ j) ↔ ((q ≡ p → ⊥) × (L q ≡ j))

-- Request p in L_i, i > 0.
pub record Known (N k i p : ℕ) (L L' : ℕ → ℕ) : Type 0 where
  -- L_k = {p};
  pub top : (q : ℕ) → q < N → (L' q ≡ k) ↔ (q ≡ p)
  -- L_i without p joins L_(i-1);
  pub joins : (q : ℕ) → q < N → (L' q ≡ i - 1) ↔ ((L q ≡ i - 1) ⊎ ((L q ≡ i) × (q ≡ p → ⊥)))
  -- each L_j for i ≤ j < k becomes the old L_(j+1);
  pub becomes : (j : ℕ) → i ≤ j → j < k → (q : ℕ) → q < N → (L' q ≡ j) ↔ (L q ≡ suc j)
  -- every layer below L_(i-1) stays.
  pub stays : (j : ℕ) → suc j < i → (q : ℕ) → q < N → (L' q ≡ j) ↔ (L q ≡ j)
