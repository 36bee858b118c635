-- `serve::step` meets its contract: a page that is in a slot is a hit there, any other goes to `swap`. Assumes nothing.
use Rattle.serve.proofs.Swaps.{stayed, unmoved}
use Rattle.serve.proofs.step.Goals as goal

pub returns-then-layer-p : goal.returns-then-layer-p
returns-then-layer-p c =
    unmoved c.requires.ready c.requires.nears.0 _
    (rw c.from.ensures at c.in-Some.ensures)
    (rw c.from-p.ensures at c.if-layer-p.true)

pub returns : goal.returns
returns c =
    stayed c.requires.ready c.requires.nears.0 _ _ _
    (rw c.from.ensures at c.in-Some.ensures)
    (rw c.from-p.ensures at c.settle.ensures.layers)
    (rw c.from-p.ensures at c.settle.ensures.nears)
