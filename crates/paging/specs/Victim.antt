-- Document 01, 'Layers and selection': the victim of a request that finds its page not cached, for N pages, k slots, a
-- ranking o, layers L and the cached pages M. Assumes nothing.
use Rattle.std.specs.Prelude.{Bool, ◌&&◌, ℕ, suc, if◌then◌else◌}
use Rattle.std.proofs.Math.Option.{Option, none, some}
use Rattle.paging.specs.Sets.{◌=?◌, ◌≤?◌, Pages, count, first, lowest}

-- The cached pages of layers 1 to j together.
unfoldable pub cached_to : (ℕ → ℕ) → Pages → ℕ → Pages
cached_to L M j q = M q && 1 ≤? L q && L q ≤? j

-- Layers 1 to j together hold exactly j cached pages.
unfoldable pub full : ℕ → (ℕ → ℕ) → Pages → ℕ → Bool
full N L M j = count (cached_to L M j) N =? j

-- p in L_i, i > 0: find the smallest j with j ≥ i such that layers 1 to j together hold exactly j cached pages.
unfoldable pub reach : ℕ → ℕ → (ℕ → ℕ) → Pages → ℕ → Option ℕ
reach N k L M i = first (suc k) (λ j. i ≤? j && full N L M j)

-- The victim is the lowest-ranking of these.
unfoldable pub lowest_to : ℕ → (ℕ → ℕ → Bool) → (ℕ → ℕ) → Pages → Option ℕ → Option ℕ
lowest_to N o L M none = none
lowest_to N o L M (some j) = lowest N o (cached_to L M j)

-- Victim, p not cached, p in L_0: the lowest-ranking cached page; p in L_i, i > 0: as above.
unfoldable pub victim : ℕ → ℕ → (ℕ → ℕ → Bool) → (ℕ → ℕ) → Pages → ℕ → Option ℕ
victim N k o L M p =
    if L p =? 0 then lowest N o M
    else lowest_to N o L M (reach N k L M (L p))
