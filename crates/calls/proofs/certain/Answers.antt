-- `calls::certain` meets its contract, by what was read. Assumes nothing.
use Rattle.answers.specs.Laws.{page_known, page_bad}
use Rattle.calls.specs.Calls.{certain_answer, certain_texts}
use Rattle.calls.proofs.certain.Goals as goal

pub returns-in_default : goal.returns-in_default
unfolding certain_answer
returns-in_default c = search page_bad

pub returns : goal.returns
unfolding certain_answer certain_texts
returns c =
    page_known _ _ c.read_paged.ensures c.in-Some.is (rw (c.from.ensures, c.certain-answer.ensures) at c.number_unless.ensures)
