-- `fields::number` meets its contract, by the invariant of its loop. Assumes nothing.
use mathlib.Core.Path.{refl, sym, ◌∙◌}
use native.Mathlib.Omega.{arith}
use borrow.Author.Rules.{rules}
use Rattle.fields.specs.Laws.{number_first}
use Rattle.fields.proofs.Steps.{is_nothing, is_something, number_none, value_most, digit_wrong, digit_more, number_end, number_large}
use Rattle.fields.proofs.number.Goals as goal

pub returns-then-is_empty : goal.returns-then-is_empty
returns-then-is_empty c = sym (number_none _ _ (is_nothing c.is_empty.ensures c.if-is_empty.true))

pub loop-c-init : goal.loop-c-init
loop-c-init c = (search rules, refl)

pub returns-in_err-n : goal.returns-in_err-n
returns-in_err-n c =
    c.from_residual.ensures
    ∙ sym (number_first _ _ (is_something c.is_empty.ensures c.if-is_empty.false) ∙ c.loop-c.invariant.1 ∙ digit_wrong _ _ _ c.loop-c.c-index (search rules) c.in_err-n.ensures)

pub overflow_add-n : goal.overflow_add-n
overflow_add-n c = omega (arith, value_most _ c.in_ok-n.ensures)

pub returns-then-from-n : goal.returns-then-from-n
returns-then-from-n c =
    sym (number_first _ _ (is_something c.is_empty.ensures c.if-is_empty.false) ∙ c.loop-c.invariant.1 ∙ digit_more _ _ _ c.loop-c.c-index (search rules) c.in_ok-n.ensures ∙ number_large _ _ _ (omega arith))

pub loop-c-preserved : goal.loop-c-preserved
loop-c-preserved c =
    (omega arith, c.loop-c.invariant.1 ∙ digit_more _ _ _ c.loop-c.c-index (search rules) c.in_ok-n.ensures)

pub returns : goal.returns
returns c =
    sym (number_first _ _ (is_something c.is_empty.ensures c.if-is_empty.false) ∙ c.loop-c.invariant.1 ∙ number_end _ _ _ c.loop-c.c-index (search rules) c.loop-c.invariant.0)
