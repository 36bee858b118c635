-- `begin::list_refusal` meets its contract, by its tests in their order. Assumes nothing.
use mathlib.Core.Path.{◌∙◌}
use borrow.Author.Rules.{rules}
use Rattle.refusals.specs.Laws.{told_passed, told_refused, told_on}
use Rattle.begin.proofs.RefusalLaws.{refuse_limits, refuse_entries}
use Rattle.begin.proofs.list_refusal.Goals as goal

pub returns-in_err-limits_refusal : goal.returns-in_err-limits_refusal
returns-in_err-limits_refusal c =
    told_on c.in_err-limits_refusal.was (search rules)
    ∙ refuse_limits _ _ _ _ c.limits_refusal.ensures (told_refused c.in_err-limits_refusal.was)

pub returns-then-list-slots : goal.returns-then-list-slots
returns-then-list-slots c = refuse_entries _ _ _ _ c.limits_refusal.ensures (told_passed c.in_ok-limits_refusal.was) (search rules)
