-- `timed::timed_checked` meets its contract: the requests of an accepted file are asked one after the other. Assumes nothing.
use mathlib.Core.Path.{sym, ◌∙◌}
use Rattle.refusals.specs.Laws.{number_is_some, number_not_some}
use Rattle.timed.specs.Timed.{no_misses, all_misses}
use Rattle.timed.proofs.timed_checked.Goals as goal

pub returns-then-is_some : goal.returns-then-is_some
returns-then-is_some c = no_misses _ _ c.read-traced.ensures (number_is_some _ (sym c.is_some.ensures ∙ c.if-is_some.true))

pub returns : goal.returns
returns c = all_misses _ _ c.read-traced.ensures (number_not_some _ (sym c.is_some.ensures ∙ c.if-is_some.false)) _ c.checked_misses.ensures
