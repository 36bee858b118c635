-- What the test reads of the slots, by layers up to k, in tables that are made once. Assumes nothing.
use Rattle.std.specs.Prelude.{List, ◌≡◌, ℕ, suc}
use Rattle.paging.specs.Sets.{table}
use Rattle.slots.specs.Slots.{near_to, least_key}

-- How many slots hold a page of a layer up to each, and the least key of those.
pub record Tabled (near keys : List ℕ) (k : ℕ) (counts lows : List ℕ) : Type 0 where
  pub by_count : counts ≡ table 65 (suc k) 0 (near_to near k)
  pub by_low : lows ≡ table 65 (suc k) 0 (λ j. least_key near keys j k)
