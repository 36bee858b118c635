-- `Parts::write_lists` meets its contract: its two lists adjoin. Assumes nothing.
use borrow.Author.Rules.{rules}
use Rattle.image.proofs.Stores.{lists_put}
use Rattle.image.proofs.Parts.write_lists.Goals as goal

pub returns : goal.returns
returns c =
    lists_put _ _ _ _ _ _ _ (search rules) (search rules) (search rules) c.write_list.ensures c.write_list-2.ensures
