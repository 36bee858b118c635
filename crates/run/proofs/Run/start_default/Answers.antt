-- `Run::start_default` meets its contract: the default list has an entry for each page. Assumes nothing.
use mathlib.Core.Path.{refl, sym, ap, ◌∙◌}
use Rattle.refusals.specs.Numbers.{told}
use Rattle.refusals.specs.Laws.{told_fine, given_some, number_some}
use Rattle.ranking.specs.Ranks.{fixed_ranks}
use Rattle.begin.proofs.RefusalLaws.{begun_layers, start_allowed}
use Rattle.run.specs.Start.{started_default}
use Rattle.run.specs.Starting.{answer_refused, answer_begun, default_told}
use Rattle.run.proofs.Run.start_default.Goals as goal

pub returns-in-Err : goal.returns-in-Err
unfolding started_default
returns-in-Err c =
    let told_is = default_told _ _ _ _ (sym (ap told c.in-Err.is) ∙ c.refusal-tested.ensures) in
    rw (given_some _ _ told_is) (answer_refused _ _ _ _ _ _ refl (λ z. number_some _ (told_is ∙ z)) c.blank.ensures)

pub default_priorities-requires : goal.default_priorities-requires
default_priorities-requires c =
    (begun_layers _ _ _ (start_allowed _ _ _ _ (sym c.refusal-tested.ensures ∙ told_fine _ c.in_default.not-Err)).0).0

pub begun-requires : goal.begun-requires
begun-requires c = (start_allowed _ _ _ _ (sym c.refusal-tested.ensures ∙ told_fine _ c.in_default.not-Err)).0

pub returns : goal.returns
unfolding started_default
returns c =
    answer_begun _ _ _ _ _ _ (default_told _ _ _ _ c.refusal-tested.ensures) _ (told_fine _ c.in_default.not-Err)
    (c.fixed-ranks.ensures ∙ ap fixed_ranks c.default_priorities.ensures)
    c.begun.ensures
