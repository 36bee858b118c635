-- Document 01, 'Layers and selection': the selection, for N pages, a ranking o and layers L. Assumes nothing.
use Rattle.std.specs.Prelude.{Bool, false, ◌&&◌, ◌||◌, ℕ, zero, suc}
use Rattle.paging.specs.Sets.{◌=?◌, ◌<?◌, Pages, count}

-- The j highest-ranking pages of X: those that fewer than j pages of X outrank.
unfoldable pub highest : ℕ → (ℕ → ℕ → Bool) → Pages → ℕ → Pages
highest N o X j q = X q && count (λ r. X r && o r q) N <? j

-- X and layer j together.
unfoldable pub together : (ℕ → ℕ) → ℕ → Pages → Pages
together L j X q = X q || L q =? j

-- C_0 is empty; C_j holds the j highest-ranking pages of C_(j-1) and L_j together. The cached set is C_k.
unfoldable pub chosen : ℕ → (ℕ → ℕ → Bool) → (ℕ → ℕ) → ℕ → Pages
chosen N o L zero = λ q. false
chosen N o L (suc j) = highest N o (together L (suc j) (chosen N o L j)) (suc j)
