-- A mark byte by shifts and masks is the sum and the test that the layout says. Assumes nothing.
use mathlib.Core.Bool.{Bool, true, false}
use mathlib.Core.Path.{◌≡◌, ◌∙◌}
use Prim.Native.Nat.{ℕ, ◌*◌, ◌/◌, ◌%◌, ◌≤◌, ◌<◌}
use native.Mathlib.Omega.{arith}
use lib.Bits.{bit_or, or_shifted, or_zero_l}
use lib.Dec.{eqb, leb}
use mir.Val.{bool_byte}
use borrow.Author.Tests.{eqb-true, eq-eqb, leb-true, le-leb}
use Rattle.paging.specs.Tests.{same_test}
use Rattle.image.specs.Layout.{mark_byte}

pub joined : (layer : ℕ) (cached : Bool) → layer < 128 → bit_or (bool_byte cached * 128 % 256) layer ≡ mark_byte layer cached
unfolding mark_byte
joined layer true h = or_shifted 1 7 layer h ∙ omega arith
joined layer false h = or_zero_l layer ∙ omega arith

pub top_bit : (m : ℕ) → m ≤ 255 → eqb (m / 128) 1 ≡ leb 128 m
top_bit m h =
    same_test
    (eqb (m / 128) 1)
    (leb 128 m)
    (λ e. le-leb 128 m (omega (arith, eqb-true (m / 128) 1 e)))
    (λ e. eq-eqb (m / 128) 1 (omega (arith, leb-true 128 m e)))
