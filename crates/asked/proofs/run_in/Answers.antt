-- `asked::run_in` meets its contract; an image that is not refused has room for its tables. Assumes nothing.
use mathlib.Core.Path.{◌≡◌, ◌∙◌}
use native.Mathlib.Omega.{arith}
use Rattle.run.specs.Stored.{image_run}
use Rattle.run.proofs.Storing.{image_fits, described_is, run_pages, run_slots, agree_in}
use Rattle.asked.specs.Laws.{agreeing, differing}
use Rattle.asked.proofs.run_in.Goals as goal
use Rattle.asked.proofs.run_in.Goals.{After-in_image-run}

-- the image's length and header are right
taken : (c : After-in_image-run) → c.in_image-run.result ≡ image_run c.args.image.now
taken c = c.in_image-run.ensures ∙ described_is _ c.requires

pub agree-requires : goal.agree-requires
agree-requires c =
    let e = taken (goal.at.agree-requires c).After-in_image-run in
    let f = image_fits _ _ _ c.requires (run_pages _ _ e) (run_slots _ _ e) in
    (f.0, f.1, omega arith)

pub returns-then-agree : goal.returns-then-agree
returns-then-agree c =
    let e = taken (goal.at.returns-then-agree c).After-in_image-run in
    agreeing _ _ _ c.if-agree.true (c.agree.ensures ∙ agree_in _ _ e) e

pub returns-else-agree : goal.returns-else-agree
returns-else-agree c =
    let e = taken (goal.at.returns-else-agree c).After-in_image-run in
    differing _ _ _ c.if-agree.false (c.agree.ensures ∙ agree_in _ _ e) c.blank.ensures
