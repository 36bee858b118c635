-- The numbers of a run that rank its pages: today the priorities. Assumes nothing.
use Rattle.std.specs.Prelude.{Bool, List, ℕ, drop, slice_index_or}
use Rattle.paging.specs.Sets.{only}
use Rattle.ranking.specs.declared.Ranks.{Ranks}
use Rattle.ranking.specs.Outranks.{outranks}

-- The ranks of a start by priorities.
abbrev pub fixed_ranks : List ℕ → Ranks
fixed_ranks priority = record { priority = priority }

-- The priority of page q, and which of two pages outranks the other.
abbrev pub priority_at : Ranks → ℕ → ℕ
priority_at r q = slice_index_or r.priority q 0

abbrev pub ranked_by : Ranks → ℕ → ℕ → Bool
ranked_by r = outranks (priority_at r)

-- Entries at N and above: priority 0.
abbrev pub ranks_clear : ℕ → Ranks → Bool
ranks_clear N r = only 0 (drop N r.priority)
