-- The loop's invariant in `ranking::keys`: after q turns the array is the table of the first q keys. Assumes nothing.
use mathlib.Core.Path.{◌≡◌}
use lib.ListN.{get_or}
use Rattle.paging.specs.Sets.{table}
use Rattle.ranking.specs.Key.{key_of}
use Rattle.ranking.proofs.keys.Given as goal

abbrev pub invariant-loop-q : goal.invariant-loop-q
invariant-loop-q l = l.keys ≡ table 1024 l.q 0 (λ p. key_of (get_or l.priority p 0) p)
