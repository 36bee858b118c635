-- Which layers hold a page, as a table of marks; whether a page is alone in its layer. Assumes nothing.
use Rattle.std.specs.Prelude.{◌&&◌, List, ℕ}
use Rattle.paging.specs.Sets.{Pages, ◌=?◌, ◌≤?◌, bit, count, any, listed}
use Rattle.paging.specs.Layers.{in_layer}

-- Entry j, of every layer that a byte can name: 1 where a page below N is in layer j, else 0.
unfoldable pub seen_marks : ℕ → (ℕ → ℕ) → List ℕ
seen_marks N L = listed 256 (λ j. bit (any N (in_layer L j)))

-- A page alone in its layer 1 to k.
unfoldable pub alone_in : ℕ → (ℕ → ℕ) → Pages
alone_in N L p = 1 ≤? L p && count (in_layer L (L p)) N =? 1
