-- `slots::find` meets its contract, by the invariant of its loop. Assumes nothing.
use mathlib.Core.Path.{ap, ◌∙◌}
use Prim.Native.Nat.{ℕ, max}
use native.Mathlib.Omega.{arith}
use borrow.Author.Rules.{rules}
use Rattle.slots.proofs.Loops.{Left, left_none, left_next, left_here, left_nowhere, taken, all_taken}
use Rattle.slots.proofs.find.Goals as goal
use Rattle.slots.proofs.find.Goals.{After-loop-entry}

pub loop-entry-init : goal.loop-entry-init
loop-entry-init c = (left_none _ _, search rules)

pub loop-entry-preserved : goal.loop-entry-preserved
loop-entry-preserved c =
    let t = taken _ _ _ c.loop-entry-test.true in
    (left_next _ _ _ _ _ _ _ t.inside c.loop-entry.invariant.1 t.same c.loop-entry.invariant.0 (c.max-left.ensures ∙ ap (λ (b : ℕ). max c.loop-entry.left b) c.left_if.ensures), search rules)

-- all slots are passed
passed : (c : After-loop-entry) → Left c.args.held.now c.args.page c.args.slots c.loop-entry.left
passed c =
    let e = all_taken c.args.slots c.args.held.now c.loop-entry.entry-index (omega (arith, c.requires, c.told-held)) (omega arith) (omega arith) in
    rw e at c.loop-entry.invariant.0

pub returns-then-left-eq0 : goal.returns-then-left-eq0
returns-then-left-eq0 c = left_nowhere _ _ _ _ (search rules) (passed (goal.at.returns-then-left-eq0 c).After-loop-entry) (omega arith)

pub returns : goal.returns
returns c = rw c.from.ensures (left_here _ _ _ _ (search rules) (passed (goal.at.returns c).After-loop-entry) (omega arith))
