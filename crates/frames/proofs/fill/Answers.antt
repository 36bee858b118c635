-- `frames::fill` meets its contract, by its tests, and by what the copy leaves of the area. Assumes nothing.
use mathlib.Core.Path.{sym, ◌∙◌}
use native.Mathlib.Omega.{arith}
use borrow.Author.Rules.{rules}
use lib.ListN.{length, length-take, length-drop}
use Rattle.refusals.specs.Laws.{told_passed, told_refused, told_on}
use Rattle.frames.specs.Laws.{Begun, Frame, area_passed, frame, fill_stopped, fill_bytes, fill_away, fill_done}
use Rattle.frames.proofs.Copy.{part_put}
use Rattle.frames.proofs.fill.Goals as goal
use Rattle.frames.proofs.fill.Goals.{In_ok-area_refusal, In-Some}

pub returns-in_err-area_refusal : goal.returns-in_err-area_refusal
returns-in_err-area_refusal c =
    let all = fill_stopped _ _ _ _ _ (told_on c.in_err-area_refusal.was (search rules) ∙ c.area_refusal.ensures) (λ z. told_refused c.in_err-area_refusal.was (sym (told_on c.in_err-area_refusal.was (search rules)) ∙ z)) in
    record { number = all.0; frames = all.1 }

-- past the refusals of the run, the page and the area
passed : (c : In_ok-area_refusal) → Begun c.args.run c.args.page (length c.args.area.now)
passed c = area_passed _ _ _ _ c.area_refusal.ensures (told_passed c.in_ok-area_refusal.was)

pub returns-then-bytes-ne64 : goal.returns-then-bytes-ne64
returns-then-bytes-ne64 c =
    let all = fill_bytes _ _ _ _ (passed (goal.at.returns-then-bytes-ne64 c).In_ok-area_refusal) (search rules) in record { number = all.0; frames = all.1 }

pub find_slot-requires : goal.find_slot-requires
find_slot-requires c =
    let w = passed (goal.at.find_slot-requires c).In_ok-area_refusal in
    (w.run, w.page)

-- with a slot
there : (c : In-Some) → Frame c.args.run c.args.page (length c.args.area.now) c.in-Some.slot
there c =
    frame _ _ _ _ (area_passed _ _ _ _ c.area_refusal.ensures (told_passed c.in_ok-area_refusal.was)) c.in-Some.ensures

pub overflow_mul-at : goal.overflow_mul-at
overflow_mul-at c = omega (arith, there (goal.at.overflow_mul-at c).In-Some)

pub slice_bounds-copy_page-count : goal.slice_bounds-copy_page-count
slice_bounds-copy_page-count c = omega (arith, there (goal.at.slice_bounds-copy_page-count c).In-Some)

pub slice_bounds-copy_page-start : goal.slice_bounds-copy_page-start
slice_bounds-copy_page-start c = omega (arith, there (goal.at.slice_bounds-copy_page-start c).In-Some)

pub copy_page-requires : goal.copy_page-requires
copy_page-requires c = (simp (length-take, length-drop) (omega (arith, there (goal.at.copy_page-requires c).In-Some)), search rules)

pub returns : goal.returns
returns c =
    let w = there (goal.at.returns c).In-Some in
    let all = fill_done _ _ _ _ _ _ w (search rules) (part_put _ _ _ _ (omega (arith, w)) c.copy_page.ensures) in record { number = all.0; frames = all.1 }

pub returns-in_default : goal.returns-in_default
returns-in_default c =
    let all = fill_away _ _ _ _ (passed (goal.at.returns-in_default c).In_ok-area_refusal) (search rules) c.in_default.ensures in record { number = all.0; frames = all.1 }
