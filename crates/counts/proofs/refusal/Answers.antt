-- `counts::refusal` meets its contract, by its tests in their order. Assumes nothing.
use borrow.Author.Rules.{rules}
use Rattle.counts.specs.Laws.{number_page, number_served, number_none}
use Rattle.counts.proofs.refusal.Goals as goal

pub returns-then-page-pages : goal.returns-then-page-pages
returns-then-page-pages c = number_page _ _ _ (search rules)

pub returns-then-most-served : goal.returns-then-most-served
returns-then-most-served c = number_served _ _ _ (search rules) (search rules)

pub returns : goal.returns
returns c = number_none _ _ _ (search rules) (search rules)
