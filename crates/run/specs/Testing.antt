-- The soundness test as the code makes it: the limits, the counts, the ranks, then the tables. Assumes nothing.
use Rattle.std.specs.Prelude.{Bool, ◌&&◌, List, ℕ}
use Rattle.paging.specs.Sets.{◌=?◌}
use Rattle.ranking.specs.declared.Ranks.{Ranks}
use Rattle.ranking.specs.Ranks.{ranked_by, ranks_clear}
use Rattle.begin.specs.Limits.{limits_refusal}
use Rattle.certify.specs.Tables.{tables_sound}
use Rattle.counts.specs.declared.Counts.{Counts}
use Rattle.counts.specs.Counts.{counts_fit}

unfoldable pub parts_sound : ℕ → ℕ → Counts → List ℕ → Ranks → List ℕ → Bool
parts_sound N k c layer ranks held =
    limits_refusal N k =? 0 && counts_fit c && ranks_clear N ranks && tables_sound N k (ranked_by ranks) layer held
