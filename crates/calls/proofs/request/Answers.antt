-- `calls::request` meets its contract, by what was read. Assumes nothing.
use Rattle.answers.specs.Laws.{page_known, page_bad}
use Rattle.calls.specs.Calls.{request_answer}
use Rattle.calls.proofs.request.Goals as goal

pub returns-in_default : goal.returns-in_default
unfolding request_answer
returns-in_default c = search page_bad

pub returns : goal.returns
unfolding request_answer
returns c =
    page_known _ _ c.read_paged.ensures c.in-Some.is (rw c.request.ensures.answer at c.answered.ensures)
