-- Tests that a loop or a row of early exits makes one by one: what holds after each, and what one that fails says. Assumes nothing.
use mathlib.Core.Bool.{Bool, true, false, ◌&&◌, ◌||◌}
use mathlib.Core.List.{List}
use mathlib.Core.Path.{◌≡◌, sym, ◌∙◌}
use Prim.Native.Nat.{ℕ, ◌+◌}
use native.Mathlib.Numerals.{add-one}
use lib.Dec.{eqb, leb, ltb}
use lib.ListN.{get_or}
use Rattle.paging.specs.Sets.{each}
use Rattle.ranking.specs.Key.{key_at}

-- ---- a loop keeps the answer for each number below i, and goes on

pub each_more : (f : ℕ → Bool) (i : ℕ) (a r : Bool) → a ≡ each i f → r ≡ a && f i → r ≡ each (i + 1) f
unfolding each
each_more f i a r e er = rw (add-one i) (rw e at er)

-- what `has_room` tests of a layer
abbrev pub roomy : List ℕ → ℕ → Bool
roomy counts j = leb (get_or counts j 0) j

-- what `none_late` tests of a page
abbrev pub timely : List Bool → List ℕ → List ℕ → List ℕ → ℕ → Bool
timely marks layer keys bars q =
    get_or marks q false || eqb (get_or layer q 0) 0 || ltb (key_at keys q) (get_or bars (get_or layer q 0) 0)

-- ---- parts of a test, made one by one

pub refused : (r a : Bool) → r ≡ a → r ≡ false → false ≡ a
refused r a e h = sym h ∙ e

pub granted : (r a : Bool) → r ≡ a → r ≡ true → true ≡ a
granted r a e h = sym h ∙ e

pub stop_left : (a b : Bool) → false ≡ a → false ≡ a && b
stop_left a b e = rw (sym e)

pub go_on : (r a b : Bool) → true ≡ a → r ≡ b → r ≡ a && b
go_on r a b e h = rw (sym e) h
