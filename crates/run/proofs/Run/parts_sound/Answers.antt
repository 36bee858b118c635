-- `Run::parts_sound` meets its contract: each early answer breaks a part, and at the end the tables decide. Assumes nothing.
use mathlib.Core.Path.{sym, ◌∙◌}
use native.Mathlib.Omega.{arith}
use borrow.Author.Rules.{rules}
use Rattle.refusals.specs.Laws.{told_ok, told_err}
use Rattle.begin.specs.LimitLaws.{limits_hold}
use Rattle.layers.proofs.Passes.{only_told}
use Rattle.run.proofs.Testing.{fails_limits, fails_counts, fails_ranks, tables_decide, keyed_by}
use Rattle.run.proofs.Run.parts_sound.Goals as goal

pub returns-then-is_err : goal.returns-then-is_err
returns-then-is_err c =
    fails_limits _ _ _ _ _ _ (λ z. told_err _ (sym c.is_err.ensures.value ∙ c.if-is_err.true) (c.limits_refusal.ensures ∙ z))

pub returns-then-not-fit : goal.returns-then-not-fit
returns-then-not-fit c =
    let z = told_ok _ (sym c.is_err.ensures.value ∙ c.if-is_err.false) in
    fails_counts _ _ _ _ _ _ (sym c.limits_refusal.ensures ∙ z) (sym (c.if-not-fit.true) ∙ c.fit.ensures)

pub only_from-requires : goal.only_from-requires
only_from-requires c =
    let z = told_ok _ (sym c.is_err.ensures.value ∙ c.if-is_err.false) in
    (omega (arith, (limits_hold _ _ (sym c.limits_refusal.ensures ∙ z)).1, c.requires.lengths.1), omega (arith, c.requires.lengths.1))

pub returns-then-not-only_from : goal.returns-then-not-only_from
returns-then-not-only_from c =
    let z = told_ok _ (sym c.is_err.ensures.value ∙ c.if-is_err.false) in
    fails_ranks _ _ _ _ _ _ (sym c.limits_refusal.ensures ∙ z)
    (sym (c.if-not-fit.false) ∙ c.fit.ensures)
    (sym (c.if-not-only_from.true) ∙ only_told _ _ _ c.only_from.ensures)

pub tables-requires : goal.tables-requires
tables-requires c =
    let z = told_ok _ (sym c.is_err.ensures.value ∙ c.if-is_err.false) in
    record { limits = limits_hold _ _ (sym c.limits_refusal.ensures ∙ z); lengths = (search rules, search rules) }

pub returns : goal.returns
returns c =
    let z = told_ok _ (sym c.is_err.ensures.value ∙ c.if-is_err.false) in
    let fit = sym c.limits_refusal.ensures ∙ z in
    tables_decide _ _ _ _ _ _ fit
    (sym (c.if-not-fit.false) ∙ c.fit.ensures)
    _
    (sym (c.if-not-only_from.false) ∙ only_told _ _ _ c.only_from.ensures)
    (c.tables.ensures _ (keyed_by _ _ _ (limits_hold _ _ fit).1 c.requires.keyed.0 c.requires.keyed.1))
