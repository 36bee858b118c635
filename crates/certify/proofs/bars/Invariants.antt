-- The loop's invariant in `certify::bars`, of any slots whose tables are read: the entries from j on are the bars of their
-- layers, and `bar` is that of j. Assumes nothing.
use mathlib.Core.List.{List}
use Prim.Native.Nat.{ℕ}
use Rattle.certify.specs.ByLayer.{Tabled}
use Rattle.certify.proofs.LayerBars.{Bars}
use Rattle.certify.proofs.bars.Given as goal

abbrev pub invariant-loop-j : goal.invariant-loop-j
invariant-loop-j l =
    ((near keys : List ℕ) → Tabled near keys l.k l.counts l.lows → Bars near keys l.k l.bars l.bar l.j)
