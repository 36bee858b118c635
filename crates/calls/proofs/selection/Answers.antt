-- `calls::selection` meets its contract, by what was read and answered. Assumes nothing.
use mathlib.Core.Path.{◌≡◌, sym, ◌∙◌}
use native.Mathlib.Omega.{arith}
use lib.ListN.{length}
use Rattle.refusals.specs.Laws.{number_is_some, number_not_some}
use Rattle.answers.specs.Laws.{run_known, run_bad}
use Rattle.calls.specs.Calls.{selection_answer}
use Rattle.calls.proofs.Steps.{selection_refused, selection_wrote}
use borrow.Author.Rules.{rules}
use Rattle.calls.proofs.selection.Goals as goal

pub returns-in_default : goal.returns-in_default
unfolding selection_answer
returns-in_default c = search run_bad

pub returns-then-is_some : goal.returns-then-is_some
unfolding selection_answer
returns-then-is_some c =
    run_known c.word.ensures _ c.read_run.ensures c.in-Some.is
    (rw c.selection-answer.ensures at (selection_refused c.selection-answer.result (number_is_some _ (sym c.is_some.ensures ∙ c.if-is_some.true)) c.first_word.ensures))

pub returns : goal.returns
unfolding selection_answer
returns c =
    let long : length c.selection-answer.result.pages ≡ 1024 = search rules in
    run_known c.word.ensures _ c.read_run.ensures c.in-Some.is
    (rw c.selection-answer.ensures at
    (selection_wrote
    c.selection-answer.result
    _
    (number_not_some _ (sym c.is_some.ensures ∙ c.if-is_some.false))
    (omega arith)
    (c.gather-n.ensures.count, c.gather-n.ensures.numbers)
    c.first.ensures
    c.write_word-next.ensures
    c.write_list.ensures))
