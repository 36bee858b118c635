-- The packed answer by shifts and masks is the sum that the layout says. Assumes nothing.
use mathlib.Core.Path.{◌≡◌, ◌∙◌}
use Prim.Native.Nat.{ℕ, ◌+◌, ◌*◌, ◌%◌, ◌<◌}
use native.Mathlib.Nat.{mod-eq_of_lt}
use native.Mathlib.Omega.{arith}
use lib.Bits.{bit_or, bit_and, and_mask, or_shifted_r}
use Rattle.refusals.specs.declared.Refusal.{Refusal}
use Rattle.refusals.specs.Numbers.{number}
use Rattle.refusals.specs.Laws.{number_most}
use Rattle.serve.specs.declared.Event.{Event}
use Rattle.serve.specs.declared.Event.TheVariants.{Hit, Miss, Refused}
use Rattle.serve.specs.Event.{values}
use Rattle.board.specs.Board.{Small, packed}

-- a number that has room in its bits, moved up
slot_bits : (slot : ℕ) → slot < 64 → bit_and slot 63 * 1024 % 4294967296 ≡ slot * 1024
slot_bits slot h = rw (and_mask slot 6, mod-eq_of_lt h) (mod-eq_of_lt (omega arith))

pub small_hit : (e : Event) (slot : ℕ) → Small e → e ≡ Hit slot → slot < 64
unfolding Small
small_hit e slot w h = rw h at w

pub small_miss : (e : Event) (slot victim : ℕ) → Small e → e ≡ Miss slot victim → (slot < 64) × (victim < 1024)
unfolding Small
small_miss e slot victim w h = rw h at w

module _ (e : Event) (w : Small e) where
  pub pack_hit : (slot : ℕ) → e ≡ Hit slot → bit_and slot 63 * 1024 % 4294967296 ≡ packed e
  unfolding packed values
  pack_hit slot h = rw h (slot_bits slot (small_hit e slot w h) ∙ omega arith)

  pub pack_miss :
      (slot victim : ℕ) → e ≡ Miss slot victim → bit_or (bit_or (bit_and victim 1023) (bit_and slot 63 * 1024 % 4294967296)) 65536 ≡ packed e
  unfolding packed values
  pack_miss slot victim h =
      let (ls, lv) = small_miss e slot victim w h in
      rw (h, slot_bits slot ls, and_mask victim 10, mod-eq_of_lt lv, or_shifted_r slot 10 victim lv)
      (or_shifted_r 1 16 (slot * 1024 + victim) (omega arith) ∙ omega arith)

pub pack_refused : (e : Event) (r : Refusal) (n : ℕ) → n ≡ number r → e ≡ Refused r → n * 16777216 % 4294967296 ≡ packed e
unfolding packed values
pack_refused e r n is h = rw (h, ← is) (mod-eq_of_lt (omega (arith, is, number_most r)) ∙ omega arith)
