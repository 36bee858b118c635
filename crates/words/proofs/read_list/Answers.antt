-- `words::read_list` meets its contract, by the invariant of its loop. Assumes nothing.
use native.Mathlib.Omega.{arith}
use Rattle.paging.specs.Tables.{fill_none, fill_more, fill_all}
use Rattle.words.proofs.read_list.Goals as goal

pub loop-i-init : goal.loop-i-init
loop-i-init g c = fill_none c.args.rest g.row.N _

pub loop-i-preserved : goal.loop-i-preserved
loop-i-preserved g c = fill_more _ _ _ _ _ _ (omega arith) c.loop-i.invariant c.read_u16.ensures

pub returns : goal.returns
returns g c = fill_all _ _ _ _ _ _ (omega arith) (omega arith) c.loop-i.invariant
