-- A number that fits 32 bits, and the part of a room that is lent. Assumes nothing.
use Rattle.std.specs.Prelude.{Option, Some}
use Rattle.std.proofs.Common.{Fits, w32}
use mathlib.Core.List.{List}
use mathlib.Core.Path.{◌≡◌, sym, ◌∙◌}
use Prim.Native.Nat.{ℕ, ◌≤◌}
use native.Mathlib.Omega.{arith}
use lib.ListN.{length, take}
use Rattle.std.proofs.lemmas.List.{length-take-le}
use Rattle.fields.specs.Fields.{bytes_count, bytes_after}
use Rattle.fields.specs.Laws.{number_most}
use Rattle.fields.proofs.Reading.{bytes_few}
use Rattle.asked.specs.Asked.{number_in}

pub small_is : (w : List ℕ) (n : ℕ) {v : Option ℕ} → v ≡ Some n → v ≡ number_in w → Fits w32 n
unfolding number_in
small_is w n e f = omega (arith, number_most 4294967295 w n (sym e ∙ f))

-- the bytes that were read of a word are within their room
pub lent :
    (w room after : List ℕ) {v : Option ℕ} {n : ℕ} →
    131072 ≡ length room →
    length after ≡ 131072 →
    (v ≡ bytes_count w room) × (after ≡ bytes_after w room) →
    v ≡ Some n →
    (n ≤ length after) × (n ≡ length (take n after))
lent w room after {n = n} size long read e =
    let few : n ≤ 131072 = bytes_few w room (sym size) read e in
    let fits : n ≤ length after = omega arith in
    (fits, sym (length-take-le n after fits))
