-- `begin::padded` meets its contract: the list, and behind it what stood in the table. Assumes nothing.
use Rattle.begin.proofs.Lists.{list_table}
use Rattle.begin.proofs.padded.Goals as goal

pub returns : goal.returns
returns g c = rw c.copy_from_slice.ensures.after (list_table g.row.N c.args.rest c.args.list.now)
