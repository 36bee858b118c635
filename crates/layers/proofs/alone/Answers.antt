-- `layers::alone` meets its contract, by the test of the page's layer. Assumes nothing.
use borrow.Author.Rules.{rules}
use Rattle.layers.specs.Laws.{alone_not, alone_told}
use Rattle.layers.proofs.alone.Goals as goal

pub returns-then-j-ne0 : goal.returns-then-j-ne0
returns-then-j-ne0 c = alone_told _ _ _ _ (search rules) c.pages_in.ensures

pub returns-else-j-ne0 : goal.returns-else-j-ne0
returns-else-j-ne0 c = let z = c.if-j-ne0.false in rw z (alone_not _ _ _ z)
