-- `layers::lower` meets its contract. Assumes nothing.
use mathlib.Core.Path.{sym}
use borrow.Author.Rules.{rules}
use Rattle.layers.specs.Laws.{lowered_down, lowered_same}
use Rattle.layers.proofs.lower.Goals as goal

pub returns-then-from-x : goal.returns-then-from-x
returns-then-from-x c = sym (lowered_down _ _ (search rules))

pub returns-else-from-x : goal.returns-else-from-x
returns-else-from-x c = sym (lowered_same _ _ (search rules))
