-- What the arrays and counts of a replay stand for. Assumes nothing.
use Rattle.std.specs.Prelude.{List, ◌≡◌, ℕ}
use Rattle.ranking.specs.Key.{Narrow, key_at, page_keys}
use Rattle.ranking.specs.Ranks.{fixed_ranks}
use Rattle.slots.specs.Slots.{near_of, keys_of}
use Rattle.counts.specs.declared.Counts.{Counts}
use Rattle.counts.specs.declared.Turn.{Turn}
use Rattle.run.specs.declared.Run.{Run}
use Rattle.run.specs.declared.Served.{Served}

-- The run that they are.
abbrev pub state : ℕ → ℕ → Counts → List ℕ → List ℕ → List ℕ → Run
state N k c layer priority held =
    record {
      pages = N;
      slots = k;
      counts = c;
      layer = layer;
      ranks = fixed_ranks priority;
      held = held;
    }

-- A turn and the arrays after it, as the answer of a request.
abbrev pub outcome : ℕ → ℕ → Turn → List ℕ → List ℕ → List ℕ → Served
outcome N k t layer priority held = record { run = state N k t.counts layer priority held; event = t.event; best = t.best }

-- By slots, the layers and the keys of the pages in them; the priorities are as narrow as keys ask.
pub record Seated (k : ℕ) (layer priority held near keys : List ℕ) : Type 0 where
  pub by_near : near ≡ near_of layer held k
  pub by_key : keys ≡ keys_of (key_at (page_keys priority)) held k
  pub narrow : Narrow priority
