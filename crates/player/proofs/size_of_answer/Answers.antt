-- `player::size_of_answer` meets its contract: what is measured is the length. Assumes nothing.
use native.Mathlib.Omega.{arith}
use Rattle.text.specs.Told.{told_length}
use Rattle.player.specs.Laws.{answer_counted}
use Rattle.player.proofs.size_of_answer.Goals as goal

pub tell_answer-requires : goal.tell_answer-requires
tell_answer-requires c = answer_counted _ 1

pub returns : goal.returns
unfolding told_length
returns c = omega (arith, c.tell_answer.ensures.offset)
