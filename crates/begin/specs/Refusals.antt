-- The first refusal of a start, as the code takes it: by the numbers and the list, then by the length of the priorities. Assumes
-- nothing.
use Rattle.std.specs.Prelude.{List, ℕ, length}
use Rattle.paging.specs.Sets.{◌=?◌, unless◌give◌else◌}
use Rattle.begin.specs.Limits.{limits_refusal}
use Rattle.begin.specs.Begin.{below, different}

-- 2, 3, 4, 5, 6, or 0.
unfoldable pub list_refusal : ℕ → ℕ → List ℕ → ℕ
list_refusal N k ps =
    unless limits_refusal N k =? 0 give limits_refusal N k else
    unless length ps =? k give 4 else
    unless below N ps give 5 else
    unless different ps give 6 else
    0

-- The same, then 7, of a start with so many priorities.
unfoldable pub start_refusal : ℕ → ℕ → List ℕ → ℕ → ℕ
start_refusal N k ps priorities =
    unless list_refusal N k ps =? 0 give list_refusal N k ps else
    unless priorities =? N give 7 else
    0
