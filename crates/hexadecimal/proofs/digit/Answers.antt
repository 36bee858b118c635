-- `hexadecimal::digit` meets its contract, by its test. Assumes nothing.
use Prim.Native.Nat.{◌%◌}
use native.Mathlib.Omega.{arith}
use borrow.Author.Tests.{lt-ltb, le-ltb}
use Rattle.hexadecimal.specs.Hex.{digit_of}
use Rattle.hexadecimal.proofs.digit.Goals as goal

pub returns-in-0-to-9 : goal.returns-in-0-to-9
unfolding digit_of
returns-in-0-to-9 c = simp (lt-ltb (c.args.v % 16) 10 (omega arith))

pub returns-in_default : goal.returns-in_default
unfolding digit_of
returns-in_default c = simp (le-ltb (c.args.v % 16) 10 (omega arith))
