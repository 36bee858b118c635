-- `fields::is_none` meets its contract. Assumes nothing.
use native.Mathlib.Omega.{arith}
use Rattle.fields.proofs.Steps.{none_longer, one_dash, one_other}
use Rattle.fields.proofs.is_none.Goals as goal

pub returns-in-45 : goal.returns-in-45
returns-in-45 c = one_dash _ (omega arith) (omega arith)

pub returns-in_default : goal.returns-in_default
returns-in_default c = none_longer _ (λ e. omega arith)

pub returns-in_default-2 : goal.returns-in_default-2
returns-in_default-2 c = one_other _ (omega arith) (λ e. omega arith)

pub returns-in_default-3 : goal.returns-in_default-3
returns-in_default-3 c = none_longer _ (λ e. omega arith)
