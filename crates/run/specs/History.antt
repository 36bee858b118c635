-- Document 01, 'A sound run': the history that demand 3 is about. Assumes nothing.
use Rattle.std.specs.Prelude.{List, [], ◌∷◌, ◌++◌, ◌≡◌, ℕ, ◌<◌, None}
use Rattle.run.specs.declared.Run.{Run}
use Rattle.counts.specs.Counts.{most_served}
use Rattle.run.specs.Start.{started}
use Rattle.run.specs.Request.{requested}

-- The start of a history: an accepted start.
pub record Begun : Type 0 where
  pub pages : ℕ
  pub slots : ℕ
  pub list : List ℕ
  pub priorities : List ℕ
  pub accepted : (started pages slots list priorities).refusal ≡ None

-- The run that it starts.
abbrev pub first_run : Begun → Run
first_run b = (started b.pages b.slots b.list b.priorities).run

-- `ComesFrom b ps r`: the run r comes from the start b by the requests ps, which were all served, in this order.
-- (A refused request hands back its run and leaves no trace here.)
pub data ComesFrom (b : Begun) : List ℕ → Run → Type 0 where
  begins : ComesFrom b [] (first_run b)
  serves : {ps : List ℕ} {r : Run} → ComesFrom b ps r → (p : ℕ) → p < r.pages → r.counts.served < most_served → ComesFrom b (ps ++ (p ∷ [])) (requested r p).run

-- The run after some requests, served or refused, in this order.
unfoldable pub run_after : Run → List ℕ → Run
run_after r [] = r
run_after r (p ∷ ps) = run_after (requested r p).run ps
