-- The j highest-ranking pages of a set. Assumes nothing.
use Rattle.std.specs.Prelude.{Bool, true, false, ◌&&◌, ◌≡◌, ℕ, zero, suc, ◌+◌, ◌≤◌, ◌<◌, nat_lt}
use Rattle.std.proofs.Common.{⊎_elim, arith}
use borrow.Author.Tests.{ltb-true, lt-ltb}
use Rattle.paging.specs.Sets.{Pages, ◌∈◌, count, without}
use Rattle.paging.specs.Ranking.{Ranking}
use Rattle.paging.specs.Selection.{highest}
use Rattle.paging.specs.Tests.{truth, clash, isnt, and_in, and_left, and_right}
use Rattle.paging.specs.Count.{count_same, count_none, count_less, count_minus, without_in, without_was, without_not}
use Rattle.paging.specs.Count.{count_extra}
use Rattle.paging.specs.Rank.{Leader, asym, leader}

-- how many pages of X outrank q
abbrev pub rank : ℕ → (ℕ → ℕ → Bool) → Pages → ℕ → ℕ
rank N o X q = count (λ r. X r && o r q) N

module _ (N : ℕ) (o : ℕ → ℕ → Bool) (X : Pages) where
  pub top_in : (j q : ℕ) → q ∈ X → rank N o X q < j → q ∈ highest N o X j
  unfolding highest
  top_in j q e h = and_in (X q) (nat_lt (rank N o X q) j) e (lt-ltb (rank N o X q) j h)

  pub top_was : (j q : ℕ) → q ∈ highest N o X j → q ∈ X
  unfolding highest
  top_was j q e = and_left (X q) (nat_lt (rank N o X q) j) e

  pub top_rank : (j q : ℕ) → q ∈ highest N o X j → rank N o X q < j
  unfolding highest
  top_rank j q e = ltb-true (rank N o X q) j (and_right (X q) (nat_lt (rank N o X q) j) e)

module _ (N : ℕ) (o : ℕ → ℕ → Bool) (X : Pages) (ord : Ranking N o) where
  -- a page that outranks another is outranked by fewer
  rank_less : (a b : ℕ) → a < N → a ∈ X → o a b ≡ true → rank N o X a < rank N o X b
  rank_less a b l e h = count_less (λ r. X r && o r a) (λ r. X r && o r b) N a l out (and_in (X a) (o a b) e h) more
    where
      out : X a && o a a ≡ false
      out = isnt (X a && o a a) (λ u. ord.irreflexive a (and_right (X a) (o a a) u))

      more : (r : ℕ) → r < N → X r && o r a ≡ true → X r && o r b ≡ true
      more r lr u =
          let ra = and_right (X r) (o r a) u in
          and_in (X r) (o r b) (and_left (X r) (o r a) u) (ord.transitive r a b ra h)

  -- what is taken outranks what is left
  pub top_outranks :
      (j r q : ℕ) → r < N → q < N → r ∈ highest N o X j → q ∈ X → highest N o X j q ≡ false → o r q ≡ true
  top_outranks j r q lr lq tr xq tq =
      ⊎_elim
      (λ h. h)
      (λ h. absurd (clash (top_in N o X j q xq (omega (arith, rank_less q r lq xq h, top_rank N o X j r tr))) tq))
      (ord.total r q lr lq (λ s. clash tr (rw s tq)))

  -- one more place: it goes to b, the leader page that is left
  module _ (j b : ℕ) (w : Leader o (without X (highest N o X j)) N b) where
    abbrev T : Pages
    T = highest N o X j

    b_in : b ∈ X
    b_in = without_was X T b w.member

    b_out : T b ≡ false
    b_out = without_not X T b w.member

    -- what outranks b is taken
    taken : (r : ℕ) → r < N → X r && o r b ≡ true → r ∈ T
    taken r l u = ⊎_elim (λ t. t) (λ t. absurd (left t)) (truth (T r))
      where
        rb : o r b ≡ true
        rb = and_right (X r) (o r b) u

        left : T r ≡ false → ⊥
        left t =
            let xr = and_left (X r) (o r b) u in
            asym N o ord r b rb (w.outranks r l (without_in X T r xr t) (λ s. ord.irreflexive b (rw s at rb)))

    -- and nothing else
    rank_b : rank N o X b ≡ count T N
    rank_b = count_same (λ r. X r && o r b) T N taken back
      where
        back : (r : ℕ) → r < N → r ∈ T → X r && o r b ≡ true
        back r l u = and_in (X r) (o r b) (top_was N o X j r u) (top_outranks j r b l w.page u b_in b_out)

    -- b alone is new
    only_b : count T N ≡ j → (q : ℕ) → q < N → (q ≡ b → ⊥) → q ∈ highest N o X (suc j) → q ∈ T
    only_b size q l ne u = ⊎_elim (λ t. t) (λ t. absurd (left t)) (truth (T q))
      where
        left : T q ≡ false → ⊥
        left t =
            let bq = w.outranks q l (without_in X T q (top_was N o X (suc j) q u) t) ne in
            omega (arith, rank_b, top_rank N o X (suc j) q u, rank_less b q w.page b_in bq)

    top_one_more : count T N ≡ j → count (highest N o X (suc j)) N ≡ count T N + 1
    top_one_more size = count_minus T (highest N o X (suc j)) N b w.page b_out now more (only_b size)
      where
        now : b ∈ highest N o X (suc j)
        now = top_in N o X (suc j) b b_in (omega (arith, rank_b))

        more : (q : ℕ) → q < N → q ∈ T → q ∈ highest N o X (suc j)
        more q l u = top_in N o X (suc j) q (top_was N o X j q u) (omega (arith, top_rank N o X j q u))

  top_next : (j : ℕ) → j < count X N → count (highest N o X j) N ≡ j → count (highest N o X (suc j)) N ≡ suc j
  top_next j more size =
      let (x, l, e) = count_extra X (highest N o X j) N (omega arith) in
      let (b, w) = leader N o ord (without X (highest N o X j)) N x (omega arith) l e in
      omega (arith, top_one_more j b w size)

  -- of a set of at least j pages, exactly j are taken
  pub top_count : (j : ℕ) → j ≤ count X N → count (highest N o X j) N ≡ j
  top_count zero h = count_none (highest N o X 0) N (λ q l u. omega (arith, top_rank N o X 0 q u))
  top_count (suc j) h = top_next j h (top_count j (omega arith))
