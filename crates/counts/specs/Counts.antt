-- Document 01 on the counts of a run: the clauses of a sound run on them, what a request adds, and the refusals 8 and 9. Assumes
-- nothing.
use Rattle.std.specs.Prelude.{Bool, ◌&&◌, ℕ, ◌+◌}
use Rattle.paging.specs.Sets.{◌=?◌, ◌<?◌, ◌≤?◌, unless◌give◌else◌}
use Rattle.serve.specs.declared.Event.{Event}
use Rattle.serve.specs.declared.Event.TheVariants.{Hit, Miss, Refused}
use Rattle.counts.specs.declared.Counts.{Counts}
use Rattle.counts.specs.declared.Turn.{Turn}

-- Served requests in a run: at most 1,000,000.
abbrev pub most_served : ℕ
most_served = 1_000_000

-- All counts are 0.
unfoldable pub no_counts : Counts
no_counts = record { served = 0; hits = 0; misses = 0; best = 0 }

-- hits + misses = served ≤ 1,000,000; best ≤ misses.
unfoldable pub counts_fit : Counts → Bool
counts_fit c = c.hits + c.misses =? c.served && c.served ≤? most_served && c.best ≤? c.misses

-- Counts: every served request adds 1 to served and to either hits or misses. A request to L_0 adds 1 to best: `new` is 1 for
-- such a one, else 0.
unfoldable pub more : Counts → ℕ → ℕ → ℕ → Counts
more c hit miss new = record { served = c.served + 1; hits = c.hits + hit; misses = c.misses + miss; best = c.best + new }

-- The counts after an event, and best beside it: 0 beside a refusal, which counts nothing.
unfoldable pub turned : Counts → ℕ → Event → Turn
turned c new (Hit s) = record { event = Hit s; best = c.best + new; counts = more c 1 0 new }
turned c new (Miss s v) = record { event = Miss s v; best = c.best + new; counts = more c 0 1 new }
turned c new (Refused n) = record { event = Refused n; best = 0; counts = c }

-- 8: page not below N. 9: served is already 1,000,000. 0: neither.
unfoldable pub page_refusal : ℕ → ℕ → ℕ → ℕ
page_refusal N served p =
    unless p <? N give 8 else
    unless served <? most_served give 9 else
    0
