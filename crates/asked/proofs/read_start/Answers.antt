-- `asked::read_start` meets its contract, by what was read. Assumes nothing.
use mathlib.Core.Path.{sym, ◌∙◌}
use Rattle.asked.specs.Asked.{start_of}
use Rattle.asked.specs.Laws.{no_pages_start, no_slots_start, no_list_start, all_start, number_read}
use Rattle.asked.proofs.read_start.Goals as goal

pub returns-in_err-pages-clause-words : goal.returns-in_err-pages-clause-words
unfolding start_of
returns-in_err-pages-clause-words c =
    c.from_residual.ensures ∙ no_pages_start _ _ _ (number_read c.word-2.ensures c.read_number.ensures c.in_err-pages.was)

pub returns-in_err-slots-clause-words : goal.returns-in_err-slots-clause-words
unfolding start_of
returns-in_err-slots-clause-words c =
    c.from_residual-in_err-slots.ensures ∙ no_slots_start _ _ _ (number_read c.word-3.ensures c.read_number-2.ensures c.in_err-slots.was)

pub returns-in_err-listed-clause-words : goal.returns-in_err-listed-clause-words
unfolding start_of
returns-in_err-listed-clause-words c =
    c.from_residual-in_err-listed.ensures ∙ no_list_start _ _ _ (sym (rw c.word.ensures at c.list-third.ensures.count) ∙ c.in_err-listed.was)

pub returns-clause-words : goal.returns-clause-words
unfolding start_of
returns-clause-words c =
    all_start _ _ _ (number_read c.word-2.ensures c.read_number.ensures c.in_ok-pages.was) (number_read c.word-3.ensures c.read_number-2.ensures c.in_ok-slots.was) (sym (rw c.word.ensures at c.list-third.ensures.count) ∙ c.in_ok-listed.was)
