-- Document 01, 'A sound run': what a schedule is, what it loads, and what the fewest loads are. Nothing here is about layers
-- or priorities. Requests stand in the order in which they come. Assumes nothing.
use Rattle.std.specs.Prelude.{List, [], ◌∷◌, ◌≡◌, ℕ, ◌+◌, ◌≤◌, ◌<◌}
use Rattle.paging.specs.Sets.{Pages, ◌∈◌, count, without}

-- The requests are of pages below N.
abbrev pub Below : ℕ → List ℕ → Type 0
Below N [] = Unit {0}
Below N (p ∷ ps) = (p < N) × Below N ps

-- A schedule is the start set and then one set for each served request, of at most k pages, the requested page among them.
abbrev pub Serves : ℕ → ℕ → List ℕ → List Pages → Type 0
Serves N k [] [] = Unit {0}
Serves N k [] (T ∷ Ts) = ⊥
Serves N k (p ∷ ps) [] = ⊥
Serves N k (p ∷ ps) (T ∷ Ts) = (count T N ≤ k) × (p ∈ T) × Serves N k ps Ts

-- Its loads are the pages of each set that the set before it lacks, summed over the requests.
unfoldable pub loads : ℕ → Pages → List Pages → ℕ
loads N S [] = 0
loads N S (T ∷ Ts) = count (without T S) N + loads N T Ts

-- The set that it ends with.
unfoldable pub end : Pages → List Pages → Pages
end S [] = S
end S (T ∷ Ts) = end T Ts

-- b is the least number of loads of all schedules that start with S: some schedule has exactly b, and none has fewer.
pub record Least (N k : ℕ) (S : Pages) (ps : List ℕ) (b : ℕ) : Type 0 where
  pub some : (Ts : List Pages) × Serves N k ps Ts × (loads N S Ts ≡ b)
  pub none_fewer : (Ts : List Pages) → Serves N k ps Ts → b ≤ loads N S Ts

-- E is the end of a schedule with exactly b loads.
abbrev pub Ends : ℕ → ℕ → Pages → List ℕ → ℕ → Pages → Type 0
Ends N k S ps b E = (Ts : List Pages) × Serves N k ps Ts × (loads N S Ts ≡ b) × ((q : ℕ) → q < N → end S Ts q ≡ E q)
