-- `fields::end_of` meets its contract: past the end of the line nothing stands. Assumes nothing.
use mathlib.Core.Logic.{⊎_elim}
use native.Mathlib.Omega.{arith}
use Rattle.fields.proofs.Steps.{before_end}
use Rattle.fields.proofs.end_of.Goals as goal

pub returns-in-None-clause-place : goal.returns-in-None-clause-place
returns-in-None-clause-place c =
    omega (arith, before_end c.args.separator c.args.line.now c.args.from (⊎_elim (λ l. omega arith) (λ l. omega arith) c.in-None.ensures.lookup.0))
