-- `Parts::write` meets its contract: its three sections adjoin. Assumes nothing.
use borrow.Author.Rules.{rules}
use Rattle.image.proofs.Stores.{image_put}
use Rattle.image.proofs.Parts.write.Goals as goal

pub returns : goal.returns
returns c =
    image_put _ _ _ _ _ _ _ _ _ _ _ _ _ (search rules) c.write_header.ensures c.write_marks.ensures c.write_lists.ensures
