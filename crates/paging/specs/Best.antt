-- Document 01, 'Counts': what the requests make of the layers and of best. No priority is mentioned. Assumes nothing.
use Rattle.std.specs.Prelude.{List, [], ◌∷◌, ◌≡◌, ℕ, ◌+◌, ◌-◌, ◌<◌, if◌then◌else◌}
use Rattle.paging.specs.Sets.{◌=?◌, ◌≤?◌, ◌<?◌, Pages}
use Rattle.paging.specs.Layers.{start_layer, asked_known, next, Layered}

-- The layers of the pages, best, and how many slots are still free: none in document 01's runs.
pub record State : Type 0 where
  pub free : ℕ
  pub layer : ℕ → ℕ
  pub best : ℕ

-- A request moves the layers. A request to L_0 adds 1 to best; where a slot is free, its page takes that slot, and the pages
-- seen so far stand one layer lower.
unfoldable pub serve : ℕ → State → ℕ → State
serve k s p =
    if 0 <? s.layer p then record { free = s.free; layer = next k p s.layer; best = s.best } else
    if s.free =? 0 then record { free = 0; layer = next k p s.layer; best = s.best + 1 } else
    record { free = s.free - 1; layer = asked_known k 1 p s.layer; best = s.best + 1 }

unfoldable pub after : ℕ → State → List ℕ → State
after k s [] = s
after k s (p ∷ ps) = after k (serve k s p) ps

-- The pages in layers 1 to k: at a start, those that are in the slots.
unfoldable pub seen : (ℕ → ℕ) → Pages
seen L q = 1 ≤? L q

-- A start: no layer from 1 on has two pages, and nothing is counted yet.
pub record Start (N k : ℕ) (s : State) : Type 0 where
  pub layered : Layered N k s.free s.layer
  pub single : (q u : ℕ) → q < N → u < N → 0 < s.layer q → s.layer q ≡ s.layer u → q ≡ u
  pub fresh : s.best ≡ 0

-- Document 01's start with k different pages, and a start with k free slots.
abbrev pub start : List ℕ → State
start ps = record { free = 0; layer = start_layer ps; best = 0 }

abbrev pub cold : ℕ → State
cold k = record { free = k; layer = λ q. 0; best = 0 }
