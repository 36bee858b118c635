-- `fields::digit` meets its contract, by the place of the character. Assumes nothing.
use native.Mathlib.Omega.{arith}
use Rattle.fields.proofs.Steps.{value_here, value_low, value_high}
use Rattle.fields.proofs.digit.Goals as goal

pub returns-in-48-to-57 : goal.returns-in-48-to-57
returns-in-48-to-57 c = value_here _ (omega arith) (omega arith) c.from.ensures

pub returns-in_default : goal.returns-in_default
returns-in_default c = value_low _ (omega arith)

pub returns-in_default-2 : goal.returns-in_default-2
returns-in_default-2 c = value_high _ (omega arith)
