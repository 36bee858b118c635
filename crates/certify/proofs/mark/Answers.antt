-- `certify::mark` meets its contract, by the invariant of its loop. Assumes nothing.
use mathlib.Core.Path.{◌∙◌}
use native.Mathlib.Omega.{arith}
use borrow.Author.Rules.{rules}
use Rattle.slots.proofs.Loops.{taken, all_taken}
use Rattle.certify.proofs.Marks.{Marked, marked_none, marked_more, no_seat, twice, seats_all, marks_all}
use Rattle.certify.proofs.mark.Goals as goal
use Rattle.certify.proofs.mark.Goals.{After-loop-entry, then-pages-page-via-then-pages-page, then-pages-page-via-else-pages-page+then-marks-page}

pub loop-entry-init : goal.loop-entry-init
loop-entry-init c = marked_none _ _ _ c.requires.2

pub returns-then-pages-page-clause-result : goal.returns-then-pages-page-clause-result
returns-then-pages-page-clause-result c =
    let t = taken _ _ _ c.loop-entry-test.true in
    elim c.then-pages-page.branch [ then-pages-page-via-then-pages-page v ↦ no_seat _ _ _ _ _ t.inside (c.from-page.ensures ∙ t.same) c.loop-entry.invariant _ t.below v.if-pages-page.true | then-pages-page-via-else-pages-page+then-marks-page v ↦ twice _ _ _ _ _ t.inside (c.from-page.ensures ∙ t.same) c.loop-entry.invariant _ t.below v.if-marks-page.true ]

pub loop-entry-preserved : goal.loop-entry-preserved
loop-entry-preserved c =
    let t = taken _ _ _ c.loop-entry-test.true in
    marked_more _ _ _ _ _ t.inside (c.from-page.ensures ∙ t.same) c.loop-entry.invariant (search rules) (search rules) c.if-marks-page.false

-- all slots are passed
passed : (c : After-loop-entry) → Marked c.args.pages c.args.held.now c.loop-entry.marks c.args.slots
passed c =
    let e = all_taken c.args.slots c.args.held.now c.loop-entry.entry-index (omega (arith, c.requires, c.told-held)) (omega arith) (omega arith) in
    rw e at c.loop-entry.invariant

pub returns-clause-result : goal.returns-clause-result
returns-clause-result c = seats_all _ _ _ _ (passed (goal.at.returns-clause-result c).After-loop-entry)

pub returns-clause-marked : goal.returns-clause-marked
returns-clause-marked c e = marks_all _ _ _ _ (passed (goal.at.returns-clause-marked c).After-loop-entry) (search rules)
