-- Document 01, 'A sound run': the clauses that speak of the tables of layers and slots, as one test. `o` is the run's ranking.
-- Assumes nothing.
use Rattle.std.specs.Prelude.{Bool, ◌&&◌, List, ℕ, suc, drop, slice_index_or}
use Rattle.std.specs.Bool.{beq}
use Rattle.paging.specs.Sets.{◌=?◌, ◌<?◌, ◌≤?◌, ◌⇒◌, count, each, any, only}
use Rattle.paging.specs.Layers.{in_layer}
use Rattle.paging.specs.Selection.{chosen}
use Rattle.slots.specs.Slots.{no_page, seated}

-- Each slot holds one cached page, and each cached page one slot.
unfoldable pub seats_fit : ℕ → ℕ → List ℕ → Bool
seats_fit N k held =
    each k (λ s. slice_index_or held s no_page <? N)
    && each k (λ s. each k (λ t. slice_index_or held s no_page =? slice_index_or held t no_page ⇒ s =? t))

unfoldable pub tables_sound : ℕ → ℕ → (ℕ → ℕ → Bool) → List ℕ → List ℕ → Bool
tables_sound N k o layer held =
    -- each page below N in a layer 0 to k;
    each N (λ q. slice_index_or layer q 0 ≤? k)
    -- every layer 1 to k holds a page
    && each k (λ j. any N (in_layer (λ q. slice_index_or layer q 0) (suc j)))
    -- and layer k exactly one;
    && count (in_layer (λ q. slice_index_or layer q 0) k) N =? 1
    -- each slot holds one cached page and each cached page one slot;
    && seats_fit N k held
    -- the cached set equals the selection.
    && each N (λ q. beq (seated held k q) (chosen N o (λ q. slice_index_or layer q 0) k q))
    -- Entries at N and above: layer 0. Slots at k and above hold no page.
    && only 0 (drop N layer)
    && only no_page (drop k held)
