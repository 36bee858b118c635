-- A part of a list as the code takes it, from one place up to another: how long, and its entries. Assumes nothing.
use Rattle.std.specs.Prelude.{List, ◌≡◌, ℕ, ◌+◌, ◌-◌, ◌≤◌, ◌<◌, length, take, drop, slice_index_or}
use Rattle.std.proofs.Common.{◌∙◌, arith, length-drop, get_or-drop, get_or-take, length-take-le}

module _ {A : Type 0} (xs : List A) (at n : ℕ) where
  same : at + n - at ≡ n
  same = omega arith

  pub part_length : at + n ≤ length xs → length (take (at + n - at) (drop at xs)) ≡ n
  part_length h = rw same (length-take-le n (drop at xs) (rw length-drop (omega arith)))

  pub part_entry : (i : ℕ) (d : A) → i < n → slice_index_or (take (at + n - at) (drop at xs)) i d ≡ slice_index_or xs (at + i) d
  part_entry i d l = rw same (get_or-take n (drop at xs) i d l ∙ get_or-drop at xs i d)
