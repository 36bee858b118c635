-- One turn of each loop: marks that are stored one by one, pages that are counted, and set after set. Assumes nothing.
use mathlib.Core.Bool.{Bool, true, false, ◌&&◌}
use mathlib.Core.List.{List}
use mathlib.Core.Path.{◌≡◌, sym, ◌∙◌}
use Prim.Native.Nat.{ℕ, zero, suc, ◌+◌, ◌-◌, ◌≤◌, ◌<◌}
use native.Mathlib.Numerals.{add-one}
use native.Mathlib.Omega.{arith}
use lib.Dec.{eqb, ltb}
use lib.ListN.{set, replicate}
use Rattle.paging.specs.Sets.{Pages, Same, count}
use Rattle.paging.specs.Selection.{highest, together, chosen}
use Rattle.selection.specs.Marks.{marks, marked}
use Rattle.paging.specs.Tables.{table_none, table_more}
use Rattle.selection.specs.Laws.{marks_at, marks_same, marks_empty, together_same, highest_same}

-- what a loop has made of the numbers below q is what it was to make, once q has come to N
reached : {A : Type 0} (made : ℕ → A) (x : A) (q N : ℕ) → x ≡ made q → q ≤ N → N ≤ q → x ≡ made N
reached made x q N e a b = let z : q ≡ N = omega arith in rw (e, z)

-- ---- marks, one after the other

pub marks_none : (S : Pages) → replicate 1024 false ≡ marks 0 S
unfolding marks
marks_none S = sym (table_none 1024 false S)

module _ (S : Pages) (out : List Bool) (q : ℕ) (e : out ≡ marks q S) where
  pub marks_turn : (v : Bool) → q < 1024 → v ≡ S q → set out q v ≡ marks (q + 1) S
  unfolding marks
  marks_turn v l g = rw (g, e, add-one q) (table_more 1024 q false S l)

-- ---- a count

module _ (S : Pages) (n q : ℕ) (e : n ≡ count S q) where
  pub count_in : S q ≡ true → n + 1 ≡ count S (q + 1)
  unfolding count
  count_in h = rw (add-one q, h) (omega arith)

  pub count_out : S q ≡ false → n ≡ count S (q + 1)
  unfolding count
  count_out h = rw (add-one q, h) (omega arith)

-- ---- whether one page is in

pub and_left_out : (a b : Bool) → a ≡ false → a && b ≡ false
and_left_out a b p = rw p

pub and_right_out : (a b : Bool) → a ≡ true → b ≡ false → a && b ≡ false
and_right_out a b p h = rw p h

module _ (L : ℕ → ℕ) (X : Pages) (j q : ℕ) where
  pub together_in : X q ≡ true → X q ≡ together L j X q
  unfolding together
  together_in h = rw h

  pub together_else : X q ≡ false → eqb (L q) j ≡ together L j X q
  unfolding together
  together_else h = rw h

module _ (N : ℕ) (o : ℕ → ℕ → Bool) (X : Pages) (j q : ℕ) where
  pub highest_in : X q ≡ true → (n : ℕ) → n ≡ count (λ r. X r && o r q) N → ltb n j ≡ highest N o X j q
  unfolding highest
  highest_in h n e = rw (h, e)

  pub highest_out : X q ≡ false → X q ≡ highest N o X j q
  unfolding highest
  highest_out h = rw h

-- ---- set after set

pub chosen_none : (N : ℕ) (o : ℕ → ℕ → Bool) (L : ℕ → ℕ) → N ≤ 1024 → replicate 1024 false ≡ marks N (chosen N o L 0)
unfolding chosen
chosen_none N o L h = sym (marks_empty N h)

-- The code reads both sets out of marks, which hold the pages below N alone: no others matter.
pub chosen_turn :
    (N : ℕ) (o : ℕ → ℕ → Bool) (L : ℕ → ℕ) (s u v : List Bool) (j : ℕ) →
    1 ≤ j →
    s ≡ marks N (chosen N o L (j - 1)) →
    u ≡ marks N (together L j (marked s)) →
    v ≡ marks N (highest N o (marked u) j) →
    v ≡ marks N (chosen N o L (j + 1 - 1))
unfolding chosen
chosen_turn N o L s u v zero one e a b = absurd (omega arith)
chosen_turn N o L s u v (suc j) one e a b =
    rw (b, up) (marks_same N (highest N o (marked u) (suc j)) (highest N o next (suc j)) (highest_same N (marked u) next inside o (suc j)))
  where
    up : suc j + 1 - 1 ≡ suc j
    up = omega arith

    down : suc j - 1 ≡ j
    down = omega arith

    next : Pages
    next = together L (suc j) (chosen N o L j)

    before : Same N (marked s) (chosen N o L j)
    before q l = rw (e, down) (marks_at N (chosen N o L j) q l)

    inside : Same N (marked u) next
    inside q l =
        rw a (marks_at N (together L (suc j) (marked s)) q l ∙ together_same N (marked s) (chosen N o L j) before L (suc j) q l)
