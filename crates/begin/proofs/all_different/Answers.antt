-- `begin::all_different` meets its contract: no entry stands before its place. Assumes nothing.
use Rattle.std.proofs.Common.{◌∙◌, rules, tests}
use Rattle.std.proofs.lemmas.Iterator.{YieldsList-from_slice}
use Rattle.std.proofs.lemmas.Iterator.Consumers.{YieldsList-from_enumerate}
use Rattle.std.proofs.lemmas.Iterator.Search.{all_from_yields_List}
use Rattle.begin.proofs.Lists.{unseen, each_unseen}
use Rattle.begin.proofs.all_different.Goals as goal

pub returns : goal.returns
returns c =
    all_from_yields_List (unseen c.args.list.now) _ _ _ c.all.ensures.ran (YieldsList-from_enumerate (YieldsList-from_slice c.args.list.now cc) (search rules)) (λ x b q k. search (rules, tests))
    ∙ each_unseen c.args.list.now
