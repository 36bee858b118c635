-- Document 01, the start: the tests of a start list, and the tables of a started run. Assumes nothing.
use Rattle.std.specs.Prelude.{Bool, List, ℕ, length, slice_index_or}
use Rattle.paging.specs.Sets.{◌=?◌, ◌<?◌, ◌⇒◌, each, table}
use Rattle.paging.specs.Layers.{start_layer}

-- Each start page is below N; no start page stands twice.
unfoldable pub below : ℕ → List ℕ → Bool
below N ps = each (length ps) (λ i. slice_index_or ps i 0 <? N)

unfoldable pub different : List ℕ → Bool
different ps = each (length ps) (λ i. each (length ps) (λ j. slice_index_or ps i 0 =? slice_index_or ps j 0 ⇒ i =? j))

-- L_i = {p_i}; L_0 holds every other page. Entries at N and above: layer 0.
unfoldable pub start_layers : ℕ → List ℕ → List ℕ
start_layers N ps = table 1024 N 0 (start_layer ps)

-- The priorities of the pages below N; entries at N and above: priority 0.
unfoldable pub start_priorities : ℕ → List ℕ → List ℕ
start_priorities N priorities = table 1024 N 0 (λ q. slice_index_or priorities q 0)

-- Page p_i goes into slot i-1. Slots at k and above hold no page.
unfoldable pub start_slots : ℕ → List ℕ → List ℕ
start_slots k ps = table 64 k 65535 (λ s. slice_index_or ps s 65535)
