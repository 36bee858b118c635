-- `frames::look` meets its contract, by its tests. Assumes nothing.
use mathlib.Core.Path.{sym, ◌∙◌}
use native.Mathlib.Omega.{arith}
use borrow.Author.Rules.{rules}
use lib.ListN.{length}
use Rattle.refusals.specs.Laws.{told_ok, told_err}
use Rattle.frames.specs.Laws.{Begun, Frame, area_passed, frame, look_stopped, look_away, looked_nothing, looked_frame}
use Rattle.frames.proofs.look.Goals as goal
use Rattle.frames.proofs.look.Goals.{Else-is_err, In-Some}

pub returns-then-is_err : goal.returns-then-is_err
returns-then-is_err c =
    let ne = told_err _ (sym c.is_err.ensures.value ∙ c.if-is_err.true) in
    looked_nothing _ _ _ _ (look_stopped _ _ _ _ c.area_refusal.ensures ne) ne

-- past the refusals of the run, the page and the area
passed : (c : Else-is_err) → Begun c.args.run c.args.page (length c.args.area.now)
passed c = area_passed _ _ _ _ c.area_refusal.ensures (told_ok _ (sym c.is_err.ensures.value ∙ c.if-is_err.false))

pub find_slot-requires : goal.find_slot-requires
find_slot-requires c =
    let w = passed (goal.at.find_slot-requires c).Else-is_err in
    (w.run, w.page)

-- with a slot
there : (c : In-Some) → Frame c.args.run c.args.page (length c.args.area.now) c.in-Some.slot
there c =
    frame _ _ _ _ (area_passed _ _ _ _ c.area_refusal.ensures (told_ok _ (sym c.is_err.ensures.value ∙ c.if-is_err.false))) c.in-Some.ensures

pub overflow_mul-start : goal.overflow_mul-start
overflow_mul-start c = omega (arith, there (goal.at.overflow_mul-start c).In-Some)

pub overflow_add-end : goal.overflow_add-end
overflow_add-end c = omega (arith, there (goal.at.overflow_add-end c).In-Some)

pub slice_bounds-result-end-2 : goal.slice_bounds-result-end-2
slice_bounds-result-end-2 c = omega (arith, there (goal.at.slice_bounds-result-end-2 c).In-Some)

pub returns : goal.returns
returns c = looked_frame _ _ _ _ (there (goal.at.returns c).In-Some)

pub returns-in_default : goal.returns-in_default
returns-in_default c =
    looked_nothing _ _ _ 12 (look_away _ _ _ (passed (goal.at.returns-in_default c).Else-is_err) c.in_default.ensures) (search rules)
