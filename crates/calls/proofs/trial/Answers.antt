-- `calls::trial` meets its contract, by what was read. Assumes nothing.
use Rattle.answers.specs.Laws.{page_known, page_bad}
use Rattle.calls.specs.Calls.{trial_answer}
use Rattle.calls.proofs.trial.Goals as goal

pub returns-in_default : goal.returns-in_default
unfolding trial_answer
returns-in_default c = search page_bad

pub returns : goal.returns
unfolding trial_answer
returns c =
    page_known _ _ c.read_paged.ensures c.in-Some.is (rw c.trial-served.ensures.answer at c.event.ensures)
