-- `hexadecimal::byte` meets its contract: of two digits, there is no more than a byte has room for. Assumes nothing.
use native.Mathlib.Omega.{arith}
use Rattle.hexadecimal.proofs.Steps.{digit_is, byte_is}
use Rattle.hexadecimal.proofs.byte.Goals as goal

pub overflow_mul-result : goal.overflow_mul-result
overflow_mul-result c = omega (arith, digit_is _ c.requires.0 c.value.ensures c.unwrap_or.ensures)

pub overflow_add-result : goal.overflow_add-result
overflow_add-result c =
    omega (arith, digit_is _ c.requires.0 c.value.ensures c.unwrap_or.ensures, digit_is _ c.requires.1 c.value-2.ensures c.unwrap_or-2.ensures)

pub returns : goal.returns
returns c =
    byte_is _ _ c.requires.0 c.requires.1 (digit_is _ c.requires.0 c.value.ensures c.unwrap_or.ensures) (digit_is _ c.requires.1 c.value-2.ensures c.unwrap_or-2.ensures)
