-- `counts::none` meets its contract. Assumes nothing.
use mathlib.Core.Path.{refl}
use Rattle.counts.specs.Counts.{no_counts}
use Rattle.counts.proofs.none.Goals as goal

pub returns : goal.returns
unfolding no_counts
returns c = refl
