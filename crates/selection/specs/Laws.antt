-- Laws for callers: what is read out of marks, and that marks and the words of the selection depend on a set only below N.
-- Assumes nothing.
use Rattle.std.specs.Prelude.{Bool, ◌&&◌, ◌≡◌, refl, ℕ, zero, suc, ◌≤◌, ◌<◌, length, replicate, slice_index_or}
use Rattle.std.proofs.Math.Bool.{false}
use Rattle.paging.specs.Sets.{Pages, Same, count}
use Rattle.paging.specs.Count.{same_count}
use Rattle.paging.specs.Selection.{highest, together, chosen}
use Rattle.paging.specs.Tables.{table_length, table_at, table_past, table_same, table_only}
use Rattle.selection.specs.Marks.{marks}

-- ---- marks

module _ (N : ℕ) (S : Pages) where
  pub marks_length : N ≤ 1024 → length (marks N S) ≡ 1024
  unfolding marks
  marks_length h = table_length 1024 N false S h

  pub marks_at : (q : ℕ) → q < N → slice_index_or (marks N S) q false ≡ S q
  unfolding marks
  marks_at q l = table_at 1024 N false S q l

  pub marks_past : (q : ℕ) → N ≤ q → slice_index_or (marks N S) q false ≡ false
  unfolding marks
  marks_past q l = table_past 1024 N false S q l

  pub marks_same : (T : Pages) → Same N S T → marks N S ≡ marks N T
  unfolding marks
  marks_same T same = table_same 1024 N false S T same

-- the empty set
pub marks_empty : (N : ℕ) → N ≤ 1024 → marks N (λ q. false) ≡ replicate 1024 false
unfolding marks
marks_empty N h = table_only 1024 N false h

-- ---- the words of the selection, below N

module _ (N : ℕ) (X Y : Pages) (same : Same N X Y) where
  pub together_same : (L : ℕ → ℕ) (j : ℕ) → Same N (together L j X) (together L j Y)
  unfolding together
  together_same L j q l = rw (same q l)

  pub highest_same : (o : ℕ → ℕ → Bool) (j : ℕ) → Same N (highest N o X j) (highest N o Y j)
  unfolding highest
  highest_same o j q l =
      let e : count (λ r. X r && o r q) N ≡ count (λ r. Y r && o r q) N =
      same_count (λ r. X r && o r q) (λ r. Y r && o r q) N (λ r lr. rw (same r lr)) in
      rw (same q l, e)

-- the selection looks at the ranking only below N
pub chosen_ranked :
    (N : ℕ) (o o' : ℕ → ℕ → Bool) (L : ℕ → ℕ) →
    ((a b : ℕ) → a < N → b < N → o a b ≡ o' a b) →
    (k : ℕ) →
    Same N (chosen N o L k) (chosen N o' L k)
unfolding chosen highest
chosen_ranked N o o' L same zero q l = refl
chosen_ranked N o o' L same (suc k) q l =
    let before = chosen_ranked N o o' L same k in
    let sets = together_same N (chosen N o L k) (chosen N o' L k) before L (suc k) in
    let e : count (λ r. together L (suc k) (chosen N o L k) r && o r q) N ≡ count (λ r. together L (suc k) (chosen N o' L k) r && o' r q) N =
    same_count (λ r. together L (suc k) (chosen N o L k) r && o r q) (λ r. together L (suc k) (chosen N o' L k) r && o' r q) N (λ r lr. rw (sets r lr, same r q lr l)) in
    rw (sets q l, e)
