-- `board::timonedra_serve` meets its contract: what is answered of the run in an image can be packed, and written over that image.
-- Assumes nothing.
use Rattle.board.specs.Laws.{settles}
use Rattle.board.proofs.Answers.{answered, imaged}
use Rattle.board.proofs.timonedra_serve.Goals as goal

pub settle-requires : goal.settle-requires
settle-requires c = settles _ _ _ c.request_in.ensures

pub returns : goal.returns
returns c = record { answer = answered _ _ _ c.request_in.ensures _ c.settle.ensures.answer; bytes = imaged _ _ _ c.request_in.ensures _ c.settle.ensures.bytes }
