-- `slots::reach_on` meets its contract, by the invariant of its loop. Assumes nothing.
use mathlib.Core.Path.{◌≡◌, ap, ◌∙◌}
use lib.ListN.{get_or}
use Prim.Native.Nat.{ℕ, ◌+◌}
use native.Mathlib.Omega.{arith}
use borrow.Author.Count.{below_more}
use borrow.Author.Rules.{rules}
use Rattle.slots.specs.Slots.{tally_of}
use Rattle.slots.specs.Laws.{near_most}
use Rattle.slots.proofs.Loops.{found_here, found_none, full_here, full_not, sum_next}
use Rattle.slots.proofs.reach_on.Goals as goal
use Rattle.slots.proofs.reach_on.Goals.{After-wide-n}

-- the sum of this turn
sum : (c : After-wide-n) → (c.wide-n.result ≡ get_or c.tally-sums.result (c.loop-j.j + 1) 0)
sum c = c.wide-n.ensures.0 ∙ ap (λ (i : ℕ). get_or c.tally-sums.result i 0) c.from-in-loop-j-2.ensures

sums : (c : After-wide-n) → (c.tally-sums.result ≡ tally_of c.args.near.now c.args.slots)
sums c = c.tally-sums.ensures ∙ ap (tally_of _) c.from.ensures

pub returns-then-slots-j : goal.returns-then-slots-j
returns-then-slots-j c = found_none _ _ _ (search rules) c.loop-j.invariant.1

pub overflow_add-n : goal.overflow_add-n
overflow_add-n c =
    omega (
      arith,
      near_most c.args.near.now c.args.slots (c.loop-j.j + 1),
      sum_next _ _ _ _ _ _ (search rules) c.loop-j.invariant.2 (sums (goal.at.overflow_add-n c).After-wide-n) (sum (goal.at.overflow_add-n c).After-wide-n),
    )

pub loop-j-preserved : goal.loop-j-preserved
loop-j-preserved c = (
  search rules,
  below_more _ _ c.loop-j.invariant.1 (full_not _ _ _ _ _ c.loop-j.invariant.2 (rw c.from-in-loop-j.ensures at c.if-n-from.false)),
  sum_next _ _ _ _ _ _ (search rules) c.loop-j.invariant.2 (sums (goal.at.loop-j-preserved c).After-wide-n) (sum (goal.at.loop-j-preserved c).After-wide-n),
)

pub returns : goal.returns
returns c =
    rw c.from-3.ensures
    (found_here _ _ _ (search rules) c.loop-j.invariant.1 (full_here _ _ _ _ _ c.loop-j.invariant.0 c.loop-j.invariant.2 (rw c.from-in-loop-j.ensures at c.if-n-from.true)))
