-- `serve::swap` meets its contract, by the laws of Swaps. Assumes nothing.
use Rattle.refusals.specs.declared.Refusal.TheVariants.{NoVictim}
use Rattle.serve.proofs.Swaps.{no_victim, no_place, swapped}
use Rattle.serve.proofs.swap.Goals as goal

pub returns-in_default : goal.returns-in_default
returns-in_default c =
    no_victim c.requires.ready c.requires.nears.0 NoVictim (rw c.from-p.ensures at c.in_default.ensures)

pub returns-in_default-find : goal.returns-in_default-find
returns-in_default-find c =
    no_place c.requires.ready c.requires.nears.0 NoVictim _
    (rw c.from-p.ensures at c.in-Some.ensures)
    (rw c.from.ensures at c.in_default-find.ensures)

pub returns : goal.returns
returns c =
    rw c.from-victim.ensures
    (swapped c.requires.ready c.requires.nears.0 _ _ _ _
    c.requires.away
    (rw c.from-p.ensures at c.in-Some.ensures)
    (rw c.from.ensures at c.in-Some-find.ensures)
    (rw c.from-p.ensures at c.settle.ensures.layers)
    (rw c.from-p.ensures at c.settle.ensures.nears))
