-- `trace::read_header` meets its contract, by its tests in their order. Assumes nothing.
use mathlib.Core.Path.{refl, sym, ap, ◌∙◌}
use borrow.Author.Rules.{rules}
use Rattle.refusals.specs.declared.Refusal.TheVariants.{Length, Requests, Offset}
use Rattle.refusals.specs.Numbers.{told}
use Rattle.refusals.specs.Laws.{number_some, told_passed}
use Rattle.trace.proofs.Reading.{header_short, header_limits, header_requests, header_offsets, header_total, header_none, said_err, said_ok}
use Rattle.trace.proofs.read_header.Goals as goal

pub returns-then-file-lt24 : goal.returns-then-file-lt24
returns-then-file-lt24 c = said_err _ Length (header_short _ (search rules)) _ refl

pub returns-in_err-limits_refusal : goal.returns-in_err-limits_refusal
returns-in_err-limits_refusal c =
    let told_is = sym (ap told c.in_err-limits_refusal.was) ∙ c.limits_refusal.ensures in
    said_err _ _ (header_limits _ (search rules) _ _ _ c.read_u32-pages.ensures c.read_u32-slots.ensures told_is (number_some _)) _ (search rules)

pub returns-then-requests-gt30000 : goal.returns-then-requests-gt30000
returns-then-requests-gt30000 c =
    said_err _ Requests
    (header_requests _ (search rules) _ _ _ c.read_u32-pages.ensures c.read_u32-slots.ensures c.limits_refusal.ensures
    (told_passed c.in_ok-limits_refusal.was) _ c.read_u32-requests.ensures (search rules))
    _ refl

pub returns-then-not-offsets_right : goal.returns-then-not-offsets_right
returns-then-not-offsets_right c =
    said_err _ Offset
    (header_offsets _ (search rules) _ _ _ c.read_u32-pages.ensures c.read_u32-slots.ensures c.limits_refusal.ensures
    (told_passed c.in_ok-limits_refusal.was) _ c.read_u32-requests.ensures (search rules)
    (sym c.offsets_right.ensures ∙ c.if-not-offsets_right.true))
    _ refl

pub returns-then-file-slots : goal.returns-then-file-slots
returns-then-file-slots c =
    said_err _ Length
    (header_total _ (search rules) _ _ _ c.read_u32-pages.ensures c.read_u32-slots.ensures c.limits_refusal.ensures
    (told_passed c.in_ok-limits_refusal.was) _ c.read_u32-requests.ensures (search rules)
    (sym c.offsets_right.ensures ∙ c.if-not-offsets_right.false)
    (search rules))
    _ refl

pub returns : goal.returns
returns c =
    rw (c.read_u32-pages.ensures, c.read_u32-slots.ensures, c.read_u32-requests.ensures)
    (said_ok _
    (sym
    (header_none _ (search rules) _ _ _ c.read_u32-pages.ensures c.read_u32-slots.ensures c.limits_refusal.ensures
    (told_passed c.in_ok-limits_refusal.was) _ c.read_u32-requests.ensures (search rules)
    (sym c.offsets_right.ensures ∙ c.if-not-offsets_right.false)
    (search rules))))
