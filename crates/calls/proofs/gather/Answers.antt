-- `calls::gather` meets its contract, by the invariant of its loop. Assumes nothing.
use mathlib.Core.Bool.{true, false}
use mathlib.Core.Path.{sym}
use native.Mathlib.Omega.{arith}
use Rattle.calls.proofs.Steps.{gathering_first, gathering_next, gathering_last}
use Rattle.calls.proofs.gather.Goals as goal
use Rattle.calls.proofs.gather.Goals.{then-is_in, else-is_in}

pub loop-q-init : goal.loop-q-init
loop-q-init c = gathering_first _ _

pub bounds-list-n : goal.bounds-list-n
bounds-list-n c =
    omega (arith, c.loop-q.invariant.few, c.loop-q.invariant.size, c.requires.0, c.requires.1)

pub loop-q-preserved : goal.loop-q-preserved
loop-q-preserved c =
    elim c.if-is_in.branch [
      | then-is_in w ↦ gathering_next _ _ _ _ _ c.loop-q.invariant true _ _ c.loop-q-test.true (omega (arith, c.loop-q.invariant.few, c.loop-q.invariant.size, c.requires.0, c.requires.1)) (sym w.if-is_in.true) (w.n-is, w.list-is)
      | else-is_in w ↦ gathering_next _ _ _ _ _ c.loop-q.invariant false _ _ c.loop-q-test.true (omega (arith, c.loop-q.invariant.few, c.loop-q.invariant.size, c.requires.0, c.requires.1)) (sym w.if-is_in.false) (omega (arith, w.n-is), w.list-is)
    ]

pub returns : goal.returns
returns c =
    let all = gathering_last _ _ _ _ _ c.loop-q.invariant c.loop-q-test.false in record { count = all.0; numbers = all.1 }
