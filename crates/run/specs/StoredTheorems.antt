-- A run whose numbers fit their types, for the theorems about stored runs (proofs/StoredTheorems.antt). Assumes nothing.
use Rattle.std.specs.Prelude.{◌≡◌, ℕ, ◌≤◌, length, slice_index_or}
use Rattle.run.specs.declared.Run.{Run}
use Rattle.begin.specs.Limits.{most_pages, most_slots}

-- What the types of a run's fields say of it: the lengths of its tables, and how wide its numbers are.
pub record Typed (r : Run) : Type 0 where
  pub layers : length r.layer ≡ most_pages
  pub priorities : length r.ranks.priority ≡ most_pages
  pub slots : length r.held ≡ most_slots
  pub wide : (q : ℕ) → slice_index_or r.ranks.priority q 0 ≤ 65535
  pub best : r.counts.best ≤ 4294967295
