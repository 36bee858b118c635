-- `hexadecimal::write_pairs` meets its contract, by the invariant of its loop. Assumes nothing.
use borrow.Author.Rules.{rules}
use Rattle.hexadecimal.proofs.Steps.{pairs_first, pairs_more, pairs_all}
use Rattle.hexadecimal.proofs.write_pairs.Goals as goal

pub loop-i-init : goal.loop-i-init
loop-i-init c = pairs_first _ _ c.args.bytes.now

pub loop-i-preserved : goal.loop-i-preserved
loop-i-preserved c =
    pairs_more _ _ _ c.loop-i.i c.loop-i.out _ _ (search rules) (search rules) (search rules) c.loop-i.invariant c.digit.ensures c.digit-in-loop-i.ensures

pub returns : goal.returns
returns c = pairs_all _ _ _ c.loop-i.i _ (search rules) c.loop-i.invariant
