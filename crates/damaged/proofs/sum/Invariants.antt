-- The sum is a remainder, so that the next step fits.
use Rattle.std.proofs.Common.{◌<◌}
use Rattle.damaged.proofs.sum.Given as goal

abbrev pub invariant-loop-x : goal.invariant-loop-x
invariant-loop-x l = l.total < 1000000007
