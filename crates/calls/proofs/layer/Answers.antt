-- `calls::layer` meets its contract, by what was read. Assumes nothing.
use Rattle.answers.specs.Laws.{page_known, page_bad}
use Rattle.calls.specs.Calls.{layer_answer, layer_texts}
use Rattle.calls.proofs.layer.Goals as goal

pub returns-in_default : goal.returns-in_default
unfolding layer_answer
returns-in_default c = search page_bad

pub returns : goal.returns
unfolding layer_answer layer_texts
returns c =
    page_known _ _ c.read_paged.ensures c.in-Some.is (rw (c.from.ensures, c.layer-answer.ensures) at c.number_unless.ensures)
