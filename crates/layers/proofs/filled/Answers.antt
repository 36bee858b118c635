-- `layers::filled` meets its contract. Assumes nothing.
use mathlib.Core.Path.{◌∙◌}
use borrow.Author.Rules.{rules}
use Rattle.layers.proofs.Tables.{filled_end}
use Rattle.layers.proofs.filled.Goals as goal

pub returns : goal.returns
returns c = c.all_marked.ensures ∙ filled_end _ _ _ _ (search rules) c.seen-marks.ensures
