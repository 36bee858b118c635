-- The words of the theorems about trace files (proofs/Theorems.antt): lists of 16-bit numbers, and what an accepted file says.
-- Assumes nothing.
use Rattle.std.specs.Prelude.{◌≡◌, ℕ, ◌≤◌, ◌<◌, slice_index_or}
use mathlib.Core.List.{List}
use Rattle.std.proofs.Math.ListN.{length}
use Rattle.run.specs.Start.{started}
use Rattle.trace.specs.Layout.{pages_in, slots_in}
use Rattle.trace.specs.Layout.{list_in, priorities_in, requests_of, trace_refusal, traced}

-- every entry is a 16-bit number, as in a `&[u16]`
pub record Small (vs : List ℕ) : Type 0 where
  pub at : (i : ℕ) → i < length vs → slice_index_or vs i 0 ≤ 65535

-- a file says what was written into it
pub record Says (b : List ℕ) (N k : ℕ) (ps pr rs : List ℕ) : Type 0 where
  pub refusal : trace_refusal b ≡ 0
  pub pages : pages_in b ≡ N
  pub slots : slots_in b ≡ k
  pub list : list_in b ≡ ps
  pub priorities : priorities_in b ≡ pr
  pub requests : requests_of b ≡ rs
  pub run : (traced b).run ≡ (started N k ps pr).run
