-- `layers::ask` meets its contract. Assumes nothing.
use borrow.Author.Rules.{rules}
use Rattle.paging.proofs.Moves.{bar_range}
use Rattle.layers.proofs.Tables.{ask_end}
use Rattle.layers.proofs.ask.Goals as goal

pub sink-requires : goal.sink-requires
sink-requires c =
    (rw c.requires.known.4 (bar_range _ _ c.requires.known.2 (c.requires.bounded _ c.requires.known.0)).0, search rules)

pub returns : goal.returns
returns c =
    ask_end _ _ _ _ _ _ c.requires.known.0 c.requires.known.2 c.requires.known.4 c.requires.bounded c.sink.ensures
