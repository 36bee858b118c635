-- Document 01, the answer of a start. Assumes nothing.
use Rattle.std.specs.Prelude.{List, ℕ, length, None}
use Rattle.run.specs.declared.Run.{Run}
use Rattle.run.specs.declared.Started.{Started}
use Rattle.paging.specs.Sets.{◌=?◌, unless◌give◌else◌}
use Rattle.refusals.specs.Numbers.{given}
use Rattle.ranking.specs.declared.Ranks.{Ranks}
use Rattle.ranking.specs.Ranks.{fixed_ranks}
use Rattle.ranking.specs.Defaults.{default_priorities}
use Rattle.begin.specs.Limits.{pages_fit, slots_fit}
use Rattle.begin.specs.Begin.{below, different, start_layers, start_priorities, start_slots}
use Rattle.counts.specs.Counts.{no_counts}
use Rattle.run.specs.Numbers.{blank_run}

-- L_i = {p_i}; L_0 holds every other page. Page p_i goes into slot i-1. All counts are 0.
unfoldable pub start_run : ℕ → ℕ → List ℕ → Ranks → Run
start_run N k ps ranks =
    record {
      pages = N;
      slots = k;
      counts = no_counts;
      layer = start_layers N ps;
      ranks = ranks;
      held = start_slots k ps;
    }

-- The same with a priority for each page.
abbrev pub listed_run : ℕ → ℕ → List ℕ → List ℕ → Run
listed_run N k ps priorities = start_run N k ps (fixed_ranks (start_priorities N priorities))

-- A refused start hands back the blank run.
abbrev pub no_start : ℕ → Started
no_start n = record { run = blank_run; refusal = given n }

-- Start: 2, 3, 4, 5, 6, 7.
unfoldable pub started : ℕ → ℕ → List ℕ → List ℕ → Started
started N k ps priorities =
    unless pages_fit N give no_start 2 else
    unless slots_fit N k give no_start 3 else
    unless length ps =? k give no_start 4 else
    unless below N ps give no_start 5 else
    unless different ps give no_start 6 else
    unless length priorities =? N give no_start 7 else
    record { run = listed_run N k ps priorities; refusal = None }

-- A start may name a default priority list. It is never refused with 7.
unfoldable pub started_default : ℕ → ℕ → List ℕ → Started
started_default N k ps = started N k ps (default_priorities N)
