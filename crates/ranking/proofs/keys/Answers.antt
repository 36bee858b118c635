-- `ranking::keys` meets its contract, by the invariant of its loop. Assumes nothing.
use borrow.Author.Rules.{rules}
use Rattle.paging.specs.Tables.{fill_none, fill_more, fill_all}
use Rattle.ranking.specs.Key.{page_keys}
use Rattle.ranking.proofs.keys.Goals as goal

pub loop-q-init : goal.loop-q-init
loop-q-init c = fill_none 0 1024 _

pub loop-q-preserved : goal.loop-q-preserved
loop-q-preserved c = fill_more _ _ _ _ _ _ (search rules) c.loop-q.invariant c.key.ensures

pub returns-clause-table : goal.returns-clause-table
unfolding page_keys
returns-clause-table c = fill_all _ _ _ _ _ _ (search rules) (search rules) c.loop-q.invariant
