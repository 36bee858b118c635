-- `hexadecimal::read_pairs` meets its contract, by the invariant of its loop. Assumes nothing.
use Prim.Native.Nat.{◌/◌}
use mathlib.Core.Path.{sym, ◌∙◌}
use native.Mathlib.Omega.{arith}
use borrow.Author.Rules.{rules}
use lib.ListN.{length}
use Rattle.words.specs.Laws.{put_none}
use Rattle.hexadecimal.proofs.Steps.{pair_digits, pair_byte, bytes_more, bytes_all}
use Rattle.hexadecimal.proofs.read_pairs.Goals as goal

pub loop-i-init : goal.loop-i-init
loop-i-init c = sym (put_none _ _)

pub byte-requires : goal.byte-requires
byte-requires c =
    rw c.as_chunks.ensures.front (pair_digits c.args.word.now (length c.args.word.now / 2) c.loop-i.i (search rules) (omega arith) c.requires.0)

pub loop-i-preserved : goal.loop-i-preserved
loop-i-preserved c =
    bytes_more _ c.args.word.now c.requires.1 c.loop-i.i c.loop-i.out c.byte.result (search rules) (search rules) c.loop-i.invariant (rw c.as_chunks.ensures.front at c.byte.ensures ∙ pair_byte c.args.word.now (length c.args.word.now / 2) c.loop-i.i (search rules) (omega arith))

pub returns : goal.returns
returns c = bytes_all _ c.args.word.now c.requires.1 c.loop-i.i _ (search rules) c.loop-i.invariant
