-- `frames::look_refusal` meets its contract, by its tests. Assumes nothing.
use mathlib.Core.Path.{◌∙◌}
use borrow.Author.Rules.{rules}
use lib.ListN.{length}
use Rattle.refusals.specs.Laws.{told_passed, told_refused, told_on}
use Rattle.frames.specs.Laws.{Begun, area_passed, frame, look_stopped, look_away, look_none}
use Rattle.frames.proofs.look_refusal.Goals as goal
use Rattle.frames.proofs.look_refusal.Goals.{In_ok-area_refusal}

pub returns-in_err-area_refusal : goal.returns-in_err-area_refusal
returns-in_err-area_refusal c =
    told_on c.in_err-area_refusal.was (search rules)
    ∙ look_stopped _ _ _ _ c.area_refusal.ensures (told_refused c.in_err-area_refusal.was)

-- past the refusals of the run, the page and the area
passed : (c : In_ok-area_refusal) → Begun c.args.run c.args.page (length c.args.area.now)
passed c = area_passed _ _ _ _ c.area_refusal.ensures (told_passed c.in_ok-area_refusal.was)

pub find_slot-requires : goal.find_slot-requires
find_slot-requires c =
    let w = passed (goal.at.find_slot-requires c).In_ok-area_refusal in
    (w.run, w.page)

pub returns-in_default : goal.returns-in_default
returns-in_default c =
    look_away _ _ _ (passed (goal.at.returns-in_default c).In_ok-area_refusal) c.in_default.ensures

pub returns : goal.returns
returns c =
    look_none _ _ _ _ (frame _ _ _ _ (passed (goal.at.returns c).In_ok-area_refusal) c.in-Some.ensures)
