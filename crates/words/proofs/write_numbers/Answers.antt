-- `words::write_numbers` meets its contract, by the invariant of its loop. Assumes nothing.
use mathlib.Core.Path.{refl}
use borrow.Author.Rules.{rules}
use Rattle.words.proofs.Steps.{list_none, list_more, list_all}
use Rattle.words.proofs.write_numbers.Goals as goal

pub loop-i-init : goal.loop-i-init
loop-i-init c = (refl, list_none 4 _ _)

pub loop-i-preserved : goal.loop-i-preserved
loop-i-preserved c =
    (search rules, list_more 4 _ _ _ _ _ _ (search rules) (search rules) c.loop-i.invariant.1 c.write_u32.ensures)

pub returns : goal.returns
returns c = list_all 4 _ _ _ _ _ (search rules) c.loop-i.invariant.1
