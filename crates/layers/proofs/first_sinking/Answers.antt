-- `layers::first_sinking` meets its contract. Assumes nothing.
use mathlib.Core.Path.{sym}
use Rattle.paging.specs.Tests.{positive}
use Rattle.paging.proofs.Moves.{bar_zero, bar_pos}
use Rattle.layers.proofs.first_sinking.Goals as goal

pub returns-then-i-eq0 : goal.returns-then-i-eq0
returns-then-i-eq0 c = sym (bar_zero _ _ c.if-i-eq0.true)

pub returns-else-i-eq0 : goal.returns-else-i-eq0
returns-else-i-eq0 c = sym (bar_pos _ _ (positive _ c.if-i-eq0.false))
