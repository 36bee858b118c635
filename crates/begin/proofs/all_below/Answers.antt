-- `begin::all_below` meets its contract: the test of each entry is the test of each place. Assumes nothing.
use Rattle.std.proofs.Common.{◌∙◌, nat_lt, rules, tests}
use Rattle.std.proofs.lemmas.Iterator.{YieldsList-from_slice}
use Rattle.std.proofs.lemmas.Iterator.Search.{all_from_yields_List}
use Rattle.begin.specs.Begin.{below}
use Rattle.begin.proofs.Lists.{each_entry}
use Rattle.begin.proofs.all_below.Goals as goal

pub returns : goal.returns
unfolding below
returns c =
    all_from_yields_List (λ x. nat_lt x c.args.pages) _ _ _ c.all.ensures.ran (YieldsList-from_slice c.args.list.now cc) (λ x b q k. search (rules, tests))
    ∙ each_entry _ 0 c.args.list.now
