-- What a copy over the start of a part leaves of the part and of the whole. Assumes nothing.
use mathlib.Core.List.{List, ◌++◌, append-nil}
use mathlib.Core.Path.{◌≡◌}
use Prim.Native.Nat.{ℕ, ◌+◌, ◌-◌, ◌≤◌}
use native.Mathlib.Nat.{zero-add}
use native.Mathlib.Omega.{arith}
use lib.ListN.{length, take, drop, length-drop}
use lib.Seq.{length-take-le, take_all, drop-length, drop-drop}
use borrow.Rule.Slice.PartMut.{mid_of, put_mid, Post-is}
use Rattle.words.specs.Words.{put}

-- a copy over the first n entries
pub copied : (d s t : List ℕ) (n : ℕ) → t ≡ s → length s ≡ n → t ++ drop n d ≡ put d 0 s
unfolding put
copied d s t n e l = rw (e, ← l, zero-add (length s))

-- the same of the first n entries of a list that has no more
pub copied_first : (d s t : List ℕ) (n : ℕ) → t ≡ take n s → length s ≡ n → t ++ drop n d ≡ put d 0 s
copied_first d s t n e l = copied d s t n (rw (← l, take_all (length s) s (omega arith)) at e) l

-- a slice has as many entries as it takes
pub taken : (n : ℕ) (s : List ℕ) → n ≤ length s → length (take n s) ≡ n
taken n s = length-take-le n s

-- what is put in at the start of a part that goes on to the end is put in where the part starts
pub part_put :
    (xs new last : List ℕ) (at : ℕ) →
    at + length new ≤ length xs →
    last ≡ put (mid_of at (length xs - at) xs) 0 new →
    put_mid at (length xs - at) xs last ≡ put xs at new
unfolding put
part_put xs new last at fits e =
    rw (e, Post-is at (length xs) xs (omega arith), drop-length xs, append-nil, take_all (length xs - at) (drop at xs) short, zero-add (length new), drop-drop (length new) at xs)
  where
    short : length (drop at xs) ≤ length xs - at
    short = rw (length-drop at xs) (omega arith)
