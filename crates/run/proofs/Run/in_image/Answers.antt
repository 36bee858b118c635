-- `Run::in_image` meets its contract, by the test of the header. Assumes nothing.
use mathlib.Core.Path.{sym, ◌∙◌}
use Rattle.refusals.specs.Laws.{told_ok, told_err}
use Rattle.run.proofs.Storing.{described_blank, described_is}
use Rattle.run.proofs.Run.in_image.Goals as goal

pub returns-then-is_err : goal.returns-then-is_err
returns-then-is_err c =
    c.blank.ensures ∙ described_blank _ (λ z. told_err _ (sym c.is_err.ensures.value ∙ c.if-is_err.true) (c.refusal.ensures ∙ z))

pub of_image-requires : goal.of_image-requires
of_image-requires c =
    let z = told_ok _ (sym c.is_err.ensures.value ∙ c.if-is_err.false) in
    sym c.refusal.ensures ∙ z

pub returns : goal.returns
returns c =
    let z = told_ok _ (sym c.is_err.ensures.value ∙ c.if-is_err.false) in
    c.of_image.ensures ∙ sym (described_is _ (sym c.refusal.ensures ∙ z))
