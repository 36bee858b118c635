-- `Run::start` meets its contract: its refusal first, then the run. Assumes nothing.
use mathlib.Core.Path.{refl, sym, ap, ◌∙◌}
use native.Mathlib.Omega.{arith}
use Rattle.refusals.specs.Laws.{told_fine, given_some, number_some}
use Rattle.refusals.specs.Numbers.{told}
use Rattle.ranking.specs.Ranks.{fixed_ranks}
use Rattle.begin.proofs.RefusalLaws.{begun_layers, start_allowed}
use Rattle.begin.proofs.Lists.{padded_priorities}
use Rattle.run.specs.Starting.{answer_refused, answer_begun}
use Rattle.run.proofs.Run.start.Goals as goal

pub returns-in-Err : goal.returns-in-Err
returns-in-Err c =
    let told_is = sym (ap told c.in-Err.is) ∙ c.refusal-tested.ensures in
    rw (given_some _ _ told_is) (answer_refused _ _ _ _ _ _ refl (λ z. number_some _ (told_is ∙ z)) c.blank.ensures)

pub padded-requires : goal.padded-requires
padded-requires c =
    let (ok, l) = start_allowed _ _ _ _ (sym c.refusal-tested.ensures ∙ told_fine _ c.in_default.not-Err) in
    omega (arith, begun_layers _ _ _ ok, l)

pub begun-requires : goal.begun-requires
begun-requires c = (start_allowed _ _ _ _ (sym c.refusal-tested.ensures ∙ told_fine _ c.in_default.not-Err)).0

pub returns : goal.returns
returns c =
    let z = told_fine _ c.in_default.not-Err in
    let (ok, l) = start_allowed _ _ _ _ (sym c.refusal-tested.ensures ∙ z) in
    answer_begun _ _ _ _ _ _ c.refusal-tested.ensures _ z
    (c.fixed-ranks.ensures ∙ ap fixed_ranks (c.padded.ensures ∙ padded_priorities _ _ l))
    c.begun.ensures
