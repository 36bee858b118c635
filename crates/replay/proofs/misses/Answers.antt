-- `replay::misses` meets its contract: they are among the counts of a play that tells nothing. Assumes nothing.
use mathlib.Core.Path.{ap}
use native.Mathlib.Omega.{arith}
use borrow.Author.Rules.{rules}
use Rattle.counts.specs.declared.Counts.{Counts}
use Rattle.text.specs.Told.{told_length, told_room}
use Rattle.replay.proofs.misses.Goals as goal

pub play-played-requires : goal.play-played-requires
unfolding told_length told_room
play-played-requires c = (search rules, omega arith)

pub returns : goal.returns
returns c = ap (λ (n : Counts). n.misses) c.play-played.ensures.counts
