-- `calls::number_unless` meets its contract, refused or not. Assumes nothing.
use mathlib.Core.Path.{sym, ◌∙◌}
use Rattle.refusals.specs.Laws.{number_is_some, number_not_some}
use Rattle.answers.specs.Laws.{refused_wrote, accepted_wrote}
use Rattle.calls.proofs.number_unless.Goals as goal

pub returns-then-is_some : goal.returns-then-is_some
returns-then-is_some c = refused_wrote c.first_word-next.ensures _ (number_is_some _ (sym c.is_some.ensures ∙ c.if-is_some.true))

pub returns : goal.returns
returns c = accepted_wrote c.first_word-next.ensures (number_not_some _ (sym c.is_some.ensures ∙ c.if-is_some.false)) c.then_number.ensures
