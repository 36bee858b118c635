-- `ranking::key` meets its contract. Assumes nothing.
use Rattle.ranking.specs.Key.{key_of}
use Rattle.ranking.proofs.key.Goals as goal

pub returns : goal.returns
unfolding key_of
returns c = rw (c.from.ensures, c.from-2.ensures)
