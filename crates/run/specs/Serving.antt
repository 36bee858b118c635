-- The keys that a request is given. Assumes nothing.
use Rattle.std.specs.Prelude.{List, ◌≡◌, ℕ}
use Rattle.run.specs.declared.Run.{Run}
use Rattle.ranking.specs.Key.{Narrow, page_keys}

-- Keys of the run's pages, as the code makes them: `keys` has them all, and its ranks are as narrow as they have to be.
pub record RunKeys (r : Run) (keys : List ℕ) : Type 0 where
  pub table : keys ≡ page_keys r.ranks.priority
  pub narrow : Narrow r.ranks.priority
