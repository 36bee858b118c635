-- `board::pack` meets its contract: the numbers of an event have room in their bits. Assumes nothing.
use mathlib.Core.Path.{◌∙◌}
use native.Mathlib.Omega.{arith}
use Rattle.board.proofs.Bits.{small_hit, small_miss, pack_hit, pack_miss, pack_refused}
use Rattle.board.proofs.pack.Goals as goal

pub overflow_cast-result : goal.overflow_cast-result
overflow_cast-result c = omega (arith, small_hit _ _ c.requires c.in-Hit.is)

pub overflow_cast-result-in-Miss : goal.overflow_cast-result-in-Miss
overflow_cast-result-in-Miss c = omega (arith, small_miss _ _ _ c.requires c.in-Miss.is)

pub overflow_cast-result-in-Miss-2 : goal.overflow_cast-result-in-Miss-2
overflow_cast-result-in-Miss-2 c = omega (arith, small_miss _ _ _ c.requires c.in-Miss.is)

pub returns-in-Hit : goal.returns-in-Hit
returns-in-Hit c = pack_hit _ c.requires _ c.in-Hit.is

pub returns-in-Miss : goal.returns-in-Miss
returns-in-Miss c = pack_miss _ c.requires _ _ c.in-Miss.is

pub returns-in-Refused : goal.returns-in-Refused
returns-in-Refused c = pack_refused _ _ _ (c.from.ensures ∙ c.number.ensures) c.in-Refused.is
