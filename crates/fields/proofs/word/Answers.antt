-- `fields::word` meets its contract. Assumes nothing.
use mathlib.Core.Path.{◌∙◌}
use Rattle.fields.proofs.Steps.{word_here}
use Rattle.fields.proofs.word.Goals as goal

pub returns : goal.returns
returns c =
    word_here _ c.start_of-from.result _ c.end_of-end.ensures.place ∙ c.start_of-from.ensures.place
