-- `image::refusal` meets its contract, by its tests in their order. Assumes nothing.
use mathlib.Core.List.{List}
use mathlib.Core.Path.{◌≡◌, sym, ◌∙◌}
use Prim.Native.Nat.{ℕ}
use native.Mathlib.Omega.{arith}
use borrow.Author.Rules.{rules}
use Rattle.refusals.specs.Numbers.{told}
use Rattle.refusals.specs.Laws.{told_passed, told_refused, told_on}
use Rattle.begin.specs.Limits.{limits_refusal}
use Rattle.image.specs.Layout.{image_length, pages_in, slots_in}
use Rattle.image.proofs.Laws.{refusal_short, refusal_limits, refusal_offsets, refusal_total, refusal_none}
use Rattle.image.proofs.refusal.Goals as goal
use Rattle.image.proofs.refusal.Goals.{After-limits_refusal}

pub returns-then-length-lt36 : goal.returns-then-length-lt36
returns-then-length-lt36 c = refusal_short _ (search rules)

-- the limits are asked of the header's own numbers
asked : (r n s N k : ℕ) → r ≡ limits_refusal n s → n ≡ N → s ≡ k → r ≡ limits_refusal N k
asked r n s N k e f g = cc

abbrev image-of : After-limits_refusal → List ℕ
image-of c = c.args.image.now

limits_are : (c : After-limits_refusal) → told c.limits_refusal.result ≡ limits_refusal (pages_in (image-of c)) (slots_in (image-of c))
limits_are c = asked _ _ _ _ _ c.limits_refusal.ensures c.number_at-pages.ensures.0 c.number_at-slots.ensures.0

pub returns-in_err-limits_refusal : goal.returns-in_err-limits_refusal
returns-in_err-limits_refusal c =
    let limits = limits_are (goal.at.returns-in_err-limits_refusal c).After-limits_refusal in
    told_on c.in_err-limits_refusal.was (search rules)
    ∙ (limits ∙ refusal_limits _ (search rules) (λ e. told_refused c.in_err-limits_refusal.was (limits ∙ e)))

pub returns-then-not-offsets_right : goal.returns-then-not-offsets_right
returns-then-not-offsets_right c =
    let limits = limits_are (goal.at.returns-then-not-offsets_right c).After-limits_refusal in
    refusal_offsets _ (search rules) (sym limits ∙ told_passed c.in_ok-limits_refusal.was)
    (sym c.offsets_right.ensures ∙ c.if-not-offsets_right.true)

pub returns-then-length-pages : goal.returns-then-length-pages
unfolding image_length
returns-then-length-pages c =
    let limits = limits_are (goal.at.returns-then-length-pages c).After-limits_refusal in
    refusal_total _ (search rules) (sym limits ∙ told_passed c.in_ok-limits_refusal.was)
    (sym c.offsets_right.ensures ∙ c.if-not-offsets_right.false)
    (λ e. absurd (omega arith))

pub returns : goal.returns
unfolding image_length
returns c =
    let limits = limits_are (goal.at.returns c).After-limits_refusal in
    refusal_none _ (search rules) (sym limits ∙ told_passed c.in_ok-limits_refusal.was)
    (sym c.offsets_right.ensures ∙ c.if-not-offsets_right.false)
    (omega arith)
