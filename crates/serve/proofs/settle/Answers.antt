-- `serve::settle` meets its contract: the layer that sinks first is above 0. Assumes nothing.
use native.Mathlib.Omega.{arith}
use borrow.Author.Rules.{rules}
use Rattle.paging.proofs.Moves.{bar_range}
use Rattle.layers.specs.Asked.{layer_at}
use Rattle.serve.proofs.settle.Goals as goal

pub sink-requires : goal.sink-requires
sink-requires c =
    let range =
    bar_range c.args.slots (layer_at c.args.layer.now c.args.page) (search rules) (c.requires.bounded c.args.page (search rules))
    in
    (omega (arith, c.first_sinking-from.ensures, range.0), search rules)
