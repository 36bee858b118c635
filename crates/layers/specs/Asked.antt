-- The layer table: entry q is the layer of page q. Assumes nothing.
use Rattle.std.specs.Prelude.{List, ◌++◌, ℕ, ◌-◌, drop, slice_index_or, if◌then◌else◌}
use Rattle.paging.specs.Sets.{◌≤?◌, listed}
use Rattle.paging.specs.Layers.{next}

abbrev pub layer_at : List ℕ → ℕ → ℕ
layer_at l q = slice_index_or l q 0

-- The table after a request of p: the pages below N are where `next` puts them, the entries at N and above stay.
unfoldable pub asked : ℕ → ℕ → ℕ → List ℕ → List ℕ
asked N k p l = listed N (next k p (layer_at l)) ++ drop N l

-- A layer from `from` on sinks by one.
unfoldable pub lowered : ℕ → ℕ → ℕ
lowered from x = if from ≤? x then x - 1 else x

-- The first n entries lowered, the rest as they were.
unfoldable pub sunk : ℕ → ℕ → List ℕ → List ℕ
sunk from n l = listed n (λ s. lowered from (slice_index_or l s 0)) ++ drop n l
