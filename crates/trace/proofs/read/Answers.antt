-- `trace::read` meets its contract: the header, the two lists, and the start with them. Assumes nothing.
use mathlib.Core.Path.{◌∙◌}
use Rattle.refusals.specs.Laws.{number_some}
use Rattle.trace.proofs.Reading.{header_refuses, traced_refused, read_refused, read_told, said_refusal, unrefused}
use Rattle.trace.proofs.read.Goals as goal

pub returns-in-Err : goal.returns-in-Err
returns-in-Err c =
    let n = said_refusal _ _ c.read_header.ensures _ c.in-Err.is in
    traced_refused _ _ _ (n ∙ header_refuses _ (λ z. number_some _ (n ∙ z))) (number_some _) c.refused.ensures

pub returns-in-Some : goal.returns-in-Some
returns-in-Some c =
    read_refused _ _ _ c.read_header.ensures c.in-Ok.is _ _ c.read_list-list.ensures c.read_list-priorities.ensures
    _ c.start-started.ensures _ _ c.in-Some.is c.refused-in-Some.ensures

pub returns : goal.returns
returns c =
    read_told _ _ _ c.read_header.ensures c.in-Ok.is _ _ c.read_list-list.ensures c.read_list-priorities.ensures
    _ c.start-started.ensures (unrefused _ c.in_default.not-Some)
