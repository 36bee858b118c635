-- `fields::start_of` meets its contract, by the invariant of its loop. Assumes nothing.
use Prim.Native.Nat.{◌+◌, ◌-◌}
use mathlib.Core.Path.{◌≡◌, refl, ◌∙◌}
use native.Mathlib.Omega.{arith}
use borrow.Author.Rules.{rules}
use Rattle.fields.proofs.Steps.{word_next, word_past}
use Rattle.fields.proofs.start_of.Goals as goal

pub loop-init : goal.loop-init
loop-init c =
    let all : c.args.index - 0 ≡ c.args.index = omega arith in
    (search rules, rw all refl)

pub returns-then-line-end : goal.returns-then-line-end
returns-then-line-end c =
    record { place = word_past _ c.loop.from _ c.end_of-end.ensures.place (c.args.index - c.loop.counter) (omega arith) (search rules) ∙ c.loop.invariant.1; within = search rules }

pub loop-preserved : goal.loop-preserved
loop-preserved c =
    let less : c.args.index - (c.loop.counter + 1) ≡ c.args.index - c.loop.counter - 1 = omega arith in
    (search rules, rw less (word_next _ c.loop.from _ c.end_of-end.ensures.place (c.args.index - c.loop.counter) (omega arith) ∙ c.loop.invariant.1))

pub returns : goal.returns
returns c =
    let none : c.args.index - c.loop.counter ≡ 0 = omega arith in
    record { place = rw none at c.loop.invariant.1; within = search rules }
