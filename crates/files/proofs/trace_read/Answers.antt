-- `files::trace_read` meets its contract, refused or not. Assumes nothing.
use mathlib.Core.Path.{sym, ◌∙◌}
use Rattle.refusals.specs.Laws.{number_is_some, number_not_some}
use Rattle.hexadecimal.specs.Laws.{wrote_then}
use Rattle.answers.specs.Laws.{refused_wrote, accepted_wrote}
use Rattle.files.specs.Files.{traced_texts}
use Rattle.files.proofs.trace_read.Goals as goal

pub returns-then-is_some : goal.returns-then-is_some
unfolding traced_texts
returns-then-is_some c = refused_wrote c.first_word-first.ensures _ (number_is_some _ (sym c.is_some.ensures ∙ c.if-is_some.true))

pub returns : goal.returns
unfolding traced_texts
returns c =
    accepted_wrote c.first_word-first.ensures (number_not_some _ (sym c.is_some.ensures ∙ c.if-is_some.false))
    (wrote_then c.then_number-second.ensures (wrote_then c.then_number-third.ensures c.then_record.ensures))
