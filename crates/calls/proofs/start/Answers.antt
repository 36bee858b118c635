-- `calls::start` meets its contract, by what was read. Assumes nothing.
use Rattle.answers.specs.Laws.{start_known, start_bad}
use Rattle.calls.specs.Calls.{start_answer}
use Rattle.calls.proofs.start.Goals as goal

pub returns-in_default : goal.returns-in_default
unfolding start_answer
returns-in_default c =
    start_bad _ _ _ c.room-list.ensures.size (c.read_start.ensures.words, c.read_start.ensures.numbers) c.in_default.is c.bad.ensures

pub returns : goal.returns
unfolding start_answer
returns c =
    start_known _ _ _ c.room-list.ensures.size (c.read_start.ensures.words, c.read_start.ensures.numbers) c.in-Some.is c.first.ensures
    (rw c.word.ensures at c.start_by.ensures)
