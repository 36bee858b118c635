-- `ranking::default_priority` meets its contract: the table's rule at the entry that is read. Assumes nothing.
use mathlib.Core.Path.{◌∙◌}
use Prim.Native.Nat.{◌%◌}
use native.Mathlib.Nat.{mod-lt}
use native.Mathlib.Omega.{arith}
use Rattle.ranking.specs.Different.{entry_is, default_again}
use Rattle.ranking.proofs.default_priority.Goals as goal

pub returns : goal.returns
returns c = entry_is (c.args.page % 1024) (mod-lt c.args.page (omega arith)) ∙ default_again c.args.page
