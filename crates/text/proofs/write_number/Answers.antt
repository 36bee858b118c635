-- `text::write_number` meets its contract, by the invariant of its loop. Assumes nothing.
use mathlib.Core.Path.{refl, sym, ◌∙◌}
use native.Mathlib.Omega.{arith}
use borrow.Author.Rules.{rules}
use lib.ListN.{length-set}
use Rattle.text.specs.Laws.{decimal_short}
use Rattle.text.proofs.Steps.{number_first, number_more, number_last}
use Rattle.text.proofs.write_number.Goals as goal

pub overflow_add-end : goal.overflow_add-end
overflow_add-end c = omega (arith, decimal_short c.args.n)

pub loop-i-init : goal.loop-i-init
loop-i-init c = (refl, number_first _ _ _ _ (search rules))

pub loop-i-preserved : goal.loop-i-preserved
loop-i-preserved c =
    (simp length-set (search rules), number_more _ _ _ _ (search rules) (search rules) ∙ c.loop-i.invariant.1)

pub returns : goal.returns
returns c = record { offset = search rules; text = sym (number_last _ _ _ _ (search rules)) ∙ c.loop-i.invariant.1 }
