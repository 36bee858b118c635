-- `image::seated_marks` meets its contract, by the invariant of its loop. Assumes nothing.
use mathlib.Core.Path.{◌≡◌}
use Prim.Native.Nat.{◌<◌}
use native.Mathlib.Omega.{arith}
use lib.ListN.{length, get_or, take}
use lib.Seq.{get_or-take, length-take-le}
use Rattle.image.proofs.Seats.{marked_none, marked_more, marked_past, marked_all}
use Rattle.image.proofs.seated_marks.Goals as goal
use Rattle.image.proofs.seated_marks.Goals.{then-page-lt1024, else-page-lt1024}

pub loop-page-init : goal.loop-page-init
loop-page-init c = marked_none c.args.held.now

pub loop-page-preserved : goal.loop-page-preserved
loop-page-preserved c =
    let front : length (take c.args.slots c.args.held.now) ≡ c.args.slots = length-take-le c.args.slots c.args.held.now (omega arith) in
    let inside : c.loop-page.page-index < length c.args.held.now = omega arith in
    let page : get_or (take c.args.slots c.args.held.now) c.loop-page.page-index 0 ≡ get_or c.args.held.now c.loop-page.page-index 0 =
    get_or-take c.args.slots c.args.held.now c.loop-page.page-index 0 (omega arith) in
    elim c.if-page-lt1024.branch [
      | then-page-lt1024 w ↦ rw (w.marks-is, w.from.ensures, page) (marked_more _ _ _ inside c.loop-page.invariant (omega arith))
      | else-page-lt1024 w ↦ rw w.marks-is (marked_past _ _ _ inside c.loop-page.invariant (omega arith))
    ]

pub returns : goal.returns
returns c =
    let front : length (take c.args.slots c.args.held.now) ≡ c.args.slots = length-take-le c.args.slots c.args.held.now (omega arith) in
    marked_all _ _ _ _ (omega arith) (omega arith) c.loop-page.invariant
