-- `asked::read_paged` meets its contract, by what was read. Assumes nothing.
use mathlib.Core.Path.{◌∙◌}
use Rattle.asked.specs.Laws.{no_run_paged, no_number_paged, all_paged, run_read, number_read}
use Rattle.asked.proofs.read_paged.Goals as goal

pub returns-in_err-run : goal.returns-in_err-run
returns-in_err-run c =
    c.from_residual.ensures ∙ no_run_paged _ (run_read c.word.ensures c.read_run.ensures c.in_err-run.was)

pub returns-in_err-page : goal.returns-in_err-page
returns-in_err-page c =
    c.from_residual-in_err-page.ensures ∙
    no_number_paged _ _ (run_read c.word.ensures c.read_run.ensures c.in_ok-run.was) (number_read c.word-2.ensures c.read_number.ensures c.in_err-page.was)

pub returns : goal.returns
returns c =
    all_paged _ _ _ (run_read c.word.ensures c.read_run.ensures c.in_ok-run.was) (number_read c.word-2.ensures c.read_number.ensures c.in_ok-page.was)
