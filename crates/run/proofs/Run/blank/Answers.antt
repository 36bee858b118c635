-- `Run::blank` is the blank run. Assumes nothing.
use Rattle.run.specs.Numbers.{blank_run}
use Rattle.run.proofs.Run.blank.Goals as goal

pub returns : goal.returns
unfolding blank_run
returns c = rw (c.none.ensures, c.fixed.ensures)
