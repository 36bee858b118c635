-- `timed::timed_replay` meets its contract: an accepted file's run is sound, and its requests are replayed. Assumes nothing.
use mathlib.Core.Path.{sym, ◌∙◌}
use Rattle.refusals.specs.Laws.{number_is_some, number_not_some}
use Rattle.timed.specs.Timed.{no_misses, sound_start, all_misses}
use Rattle.timed.proofs.timed_replay.Goals as goal

pub returns-then-is_some : goal.returns-then-is_some
returns-then-is_some c = no_misses _ _ c.read-traced.ensures (number_is_some _ (sym c.is_some.ensures ∙ c.if-is_some.true))

pub misses-requires : goal.misses-requires
misses-requires c = sound_start _ _ c.read-traced.ensures (number_not_some _ (sym c.is_some.ensures ∙ c.if-is_some.false))

pub returns : goal.returns
returns c = all_misses _ _ c.read-traced.ensures (number_not_some _ (sym c.is_some.ensures ∙ c.if-is_some.false)) _ c.misses.ensures
