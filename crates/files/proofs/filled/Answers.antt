-- `files::filled` meets its contract, refused or not. Assumes nothing.
use mathlib.Core.Path.{sym, ap, ◌∙◌}
use Rattle.refusals.specs.Numbers.{number_in}
use Rattle.refusals.specs.Laws.{number_is_some, number_not_some, number_of_err}
use Rattle.answers.specs.Laws.{refused_wrote, accepted_wrote}
use Rattle.files.specs.Files.{filled_texts}
use Rattle.files.proofs.filled.Goals as goal

pub returns-then-is_some : goal.returns-then-is_some
unfolding filled_texts
returns-then-is_some c =
    let is = ap number_in c.err-refusal.ensures.value ∙ (number_of_err _ ∙ c.fill.ensures.number) in
    rw (← is) (refused_wrote c.first_word-next.ensures _ (number_is_some _ (sym c.is_some.ensures ∙ c.if-is_some.true)))

pub returns : goal.returns
unfolding filled_texts
returns c =
    let is = ap number_in c.err-refusal.ensures.value ∙ (number_of_err _ ∙ c.fill.ensures.number) in
    rw (← is, ← c.fill.ensures.frames) (accepted_wrote c.first_word-next.ensures (number_not_some _ (sym c.is_some.ensures ∙ c.if-is_some.false)) c.then_bytes.ensures)
