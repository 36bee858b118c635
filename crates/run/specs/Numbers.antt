-- Document 01, 'Numbers': the blank run, and the names of a run's parts. The limits of N and k stand in Limits of the crate `begin`,
-- that of served in Counts of the crate `counts`. Assumes nothing.
use Rattle.std.specs.Prelude.{Bool, ℕ, replicate, slice_index_or}
use Rattle.ranking.specs.Ranks.{fixed_ranks, priority_at, ranked_by}
use Rattle.slots.specs.Slots.{no_page}
use Rattle.begin.specs.Limits.{most_pages, most_slots}
use Rattle.counts.specs.Counts.{no_counts}
use Rattle.run.specs.declared.Run.{Run}

-- The blank run has 0 pages, 0 slots, zero counts, all layers and priorities zero, no page in a slot.
unfoldable pub blank_run : Run
blank_run =
    record {
      pages = 0;
      slots = 0;
      counts = no_counts;
      layer = replicate most_pages 0;
      ranks = fixed_ranks (replicate most_pages 0);
      held = replicate most_slots no_page;
    }

-- The layer of page q, its priority, and the page in slot s.
abbrev pub layer : Run → ℕ → ℕ
layer r q = slice_index_or r.layer q 0

abbrev pub priority : Run → ℕ → ℕ
priority r = priority_at r.ranks

abbrev pub in_slot : Run → ℕ → ℕ
in_slot r s = slice_index_or r.held s no_page

-- Page a outranks page b, by the run's ranks.
abbrev pub ranks : Run → ℕ → ℕ → Bool
ranks r = ranked_by r.ranks
