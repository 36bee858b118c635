-- `calls::started` meets its contract, refused or not. Assumes nothing.
use mathlib.Core.Path.{sym, ◌∙◌}
use Rattle.refusals.specs.Laws.{number_is_some, number_not_some}
use Rattle.answers.specs.Laws.{refused_wrote, accepted_wrote}
use Rattle.calls.specs.Calls.{started_texts}
use Rattle.calls.proofs.started.Goals as goal

pub returns-then-is_some : goal.returns-then-is_some
unfolding started_texts
returns-then-is_some c = refused_wrote c.first_word-next.ensures _ (number_is_some _ (sym c.is_some.ensures ∙ c.if-is_some.true))

pub returns : goal.returns
unfolding started_texts
returns c = accepted_wrote c.first_word-next.ensures (number_not_some _ (sym c.is_some.ensures ∙ c.if-is_some.false)) c.then_record.ensures
