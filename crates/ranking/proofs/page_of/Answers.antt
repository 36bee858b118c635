-- `ranking::page_of` meets its contract. Assumes nothing.
use mathlib.Core.Path.{refl}
use Rattle.ranking.specs.Key.{page_of}
use Rattle.ranking.proofs.page_of.Goals as goal

pub returns : goal.returns
unfolding page_of
returns c = refl
