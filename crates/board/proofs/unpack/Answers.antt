-- `board::unpack` meets its contract: shifts are divisions, masks remainders. Assumes nothing.
use lib.Bits.{and_mask}
use Rattle.board.specs.Board.{apart}
use Rattle.board.proofs.unpack.Goals as goal

pub returns : goal.returns
unfolding apart
returns c = rw (and_mask _ 1, and_mask _ 6, and_mask _ 10)
