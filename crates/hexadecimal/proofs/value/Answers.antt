-- `hexadecimal::value` meets its contract, by the place of the character. Assumes nothing.
use native.Mathlib.Omega.{arith}
use Rattle.hexadecimal.proofs.Steps.{low_value, high_value, before_value, between_value, behind_value}
use Rattle.hexadecimal.proofs.value.Goals as goal

pub returns-in-48-to-57 : goal.returns-in-48-to-57
returns-in-48-to-57 c = low_value _ (omega arith) (omega arith)

pub returns-in-97-to-102 : goal.returns-in-97-to-102
returns-in-97-to-102 c = high_value _ (omega arith) (omega arith)

pub returns-in_default : goal.returns-in_default
returns-in_default c = before_value _ (omega arith)

pub returns-in_default-2 : goal.returns-in_default-2
returns-in_default-2 c = between_value _ (omega arith) (omega arith)

pub returns-in_default-3 : goal.returns-in_default-3
returns-in_default-3 c = behind_value _ (omega arith)
