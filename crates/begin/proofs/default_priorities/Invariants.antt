-- The loop's invariant in `begin::default_priorities`: after q turns the array is the table of the first q values. Assumes
-- nothing.
use mathlib.Core.Path.{◌≡◌}
use Rattle.paging.specs.Sets.{table}
use Rattle.ranking.specs.Defaults.{default_priority}
use Rattle.begin.proofs.default_priorities.Given as goal

abbrev pub invariant-loop-q : goal.invariant-loop-q
invariant-loop-q l = l.priority ≡ table 1024 l.q 0 default_priority
