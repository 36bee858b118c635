-- `asked::read_number` meets its contract. Assumes nothing.
use Rattle.asked.specs.Asked.{number_in}
use Rattle.asked.proofs.read_number.Goals as goal

pub returns : goal.returns
unfolding number_in
returns c = c.number.ensures
