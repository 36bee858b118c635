-- `begin::refusal` meets its contract, by its tests in their order. Assumes nothing.
use mathlib.Core.Path.{◌∙◌}
use borrow.Author.Rules.{rules}
use Rattle.refusals.specs.Laws.{told_passed, told_refused, told_on}
use Rattle.begin.proofs.RefusalLaws.{refuse_list, refuse_priorities, refuse_none}
use Rattle.begin.proofs.refusal.Goals as goal

pub returns-in_err-list_refusal : goal.returns-in_err-list_refusal
returns-in_err-list_refusal c =
    told_on c.in_err-list_refusal.was (search rules)
    ∙ refuse_list _ _ _ _ _ c.list_refusal.ensures (told_refused c.in_err-list_refusal.was)

pub returns-then-priorities-pages : goal.returns-then-priorities-pages
returns-then-priorities-pages c =
    refuse_priorities _ _ _ _ _ c.list_refusal.ensures (told_passed c.in_ok-list_refusal.was) (search rules)

pub returns : goal.returns
returns c = refuse_none _ _ _ _ _ c.list_refusal.ensures (told_passed c.in_ok-list_refusal.was) (search rules)
