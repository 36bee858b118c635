-- `begin::default_priorities` meets its contract, by the invariant of its loop. Assumes nothing.
use mathlib.Core.Path.{sym, ◌∙◌}
use native.Mathlib.Omega.{arith}
use Rattle.ranking.specs.Defaults.{default_priority, default_priorities}
use Rattle.begin.specs.Begin.{start_priorities}
use Rattle.paging.specs.Tables.{listed_entry, table_same, fill_none, fill_more, fill_all}
use Rattle.begin.proofs.default_priorities.Goals as goal

pub loop-q-init : goal.loop-q-init
loop-q-init c = fill_none 0 1024 _

pub loop-q-preserved : goal.loop-q-preserved
loop-q-preserved c =
    fill_more _ _ _ _ _ _ (omega arith) c.loop-q.invariant c.default_priority.ensures

pub returns : goal.returns
unfolding start_priorities default_priorities
returns c =
    fill_all _ _ _ _ _ _ (omega arith) (omega arith) c.loop-q.invariant
    ∙ table_same _ _ 0 _ _ (λ q l. sym (listed_entry _ default_priority 0 q l))
