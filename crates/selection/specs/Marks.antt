-- A set of pages as an array of marks: entry q says whether page q is in it. Assumes nothing.
use Rattle.std.specs.Prelude.{Bool, false, List, ℕ, slice_index_or}
use Rattle.paging.specs.Sets.{Pages, table}

-- The marks of the pages below N that are in S.
unfoldable pub marks : ℕ → Pages → List Bool
marks N S = table 1024 N false S

-- The set that marks stand for.
abbrev pub marked : List Bool → Pages
marked m q = slice_index_or m q false

-- The layers of a layer table.
abbrev pub layers : List ℕ → ℕ → ℕ
layers layer q = slice_index_or layer q 0
