-- `Run::certain` meets its contract. Assumes nothing.
use mathlib.Core.Path.{refl, sym, ap, ◌∙◌}
use Rattle.refusals.specs.Numbers.{told}
use Rattle.refusals.specs.Laws.{told_fine, given_some, number_some}
use Rattle.run.proofs.Asking.{question_allowed, certain_refused, certain_told}
use Rattle.run.proofs.Run.certain.Goals as goal

pub returns-in-Err : goal.returns-in-Err
returns-in-Err c =
    let told_is = sym (ap told c.in-Err.is) ∙ c.question_refusal.ensures in
    rw (given_some _ _ told_is) (certain_refused _ _ _ refl (λ z. number_some _ (told_is ∙ z)))

pub alone-requires : goal.alone-requires
alone-requires c =
    let z = told_fine _ c.in_default.not-Err in
    let (w, l) = question_allowed _ _ (sym c.question_refusal.ensures ∙ z) in
    (l, w.pages.1)

pub returns : goal.returns
returns c = certain_told _ _ _ c.question_refusal.ensures _ (told_fine _ c.in_default.not-Err) c.alone.ensures
