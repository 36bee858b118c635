-- `fields::list` meets its contract, by the invariant of its loop. Assumes nothing.
use mathlib.Core.Path.{◌≡◌, sym, ◌∙◌}
use borrow.Author.Rules.{rules}
use Rattle.std.proofs.lemmas.List.{set-get_or}
use Rattle.std.specs.Prelude.{Some}
use Rattle.std.proofs.lemmas.Option.{none-some}
use Rattle.fields.specs.Laws.{number_most}
use Rattle.fields.proofs.Lists.{entry_of, entry_is, reading_first, no_numbers, reading_full, reading_bad, reading_last, reading_next}
use Rattle.fields.proofs.list.Goals as goal

pub returns-then-is_none : goal.returns-then-is_none
returns-then-is_none c =
    let all = no_numbers _ _ (sym c.is_none.ensures ∙ c.if-is_none.true) in record { count = all.0; numbers = all.1 }

pub loop-n-init : goal.loop-n-init
loop-n-init c = (reading_first _ _, sym c.is_none.ensures ∙ c.if-is_none.false)

pub returns-in_err-x : goal.returns-in_err-x
returns-in_err-x c =
    let all = reading_bad _ _ _ _ _ c.loop-n.invariant.0 c.loop-n.invariant.1 _ c.end_of-end.ensures.place c.in_err-x.ensures in
    record { count = c.from_residual.ensures ∙ all.0; numbers = set-get_or c.loop-n.out c.loop-n.n 0 ∙ all.1 }

pub returns-in_err-entry : goal.returns-in_err-entry
returns-in_err-entry c =
    let got : c.ok.result ≡ Some c.in_ok-x.x = entry_of _ (number_most _ _ _ c.in_ok-x.ensures) c.try_from.ensures c.ok.ensures.value in
    absurd (none-some c.in_ok-x.x (sym c.in_err-entry.was ∙ got))

pub returns-then-word-end : goal.returns-then-word-end
returns-then-word-end c =
    let same : c.in_ok-entry.field-0 ≡ c.in_ok-x.x = entry_is _ (number_most _ _ _ c.in_ok-x.ensures) c.try_from.ensures c.ok.ensures.value c.in_ok-entry.was in
    rw same (let all = reading_last _ _ _ _ _ c.loop-n.invariant.0 c.loop-n.invariant.1 _ c.end_of-end.ensures.place _ c.in_ok-x.ensures (search rules) c.if-word-end.true in record { count = all.0; numbers = all.1 })

pub loop-n-preserved : goal.loop-n-preserved
loop-n-preserved c =
    let same : c.in_ok-entry.field-0 ≡ c.in_ok-x.x = entry_is _ (number_most _ _ _ c.in_ok-x.ensures) c.try_from.ensures c.ok.ensures.value c.in_ok-entry.was in
    rw same (
      reading_next _ _ _ _ _ c.loop-n.invariant.0 c.loop-n.invariant.1 _ c.end_of-end.ensures.place _ c.in_ok-x.ensures (search rules) c.if-word-end.false,
      c.loop-n.invariant.1,
    )

pub returns : goal.returns
returns c =
    let all = reading_full _ _ _ _ _ c.loop-n.invariant.0 c.loop-n.invariant.1 (search rules) in record { count = all.0; numbers = all.1 }
