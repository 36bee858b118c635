-- `files::readimage` meets its contract, by what was read. Assumes nothing.
use Rattle.answers.specs.Laws.{bytes_known, bytes_bad}
use Rattle.files.specs.Files.{readimage_answer}
use Rattle.files.proofs.readimage.Goals as goal

pub returns-in_default : goal.returns-in_default
unfolding readimage_answer
returns-in_default c =
    bytes_bad c.word.ensures _ _ c.room-bytes.ensures.size (c.bytes.ensures.count, c.bytes.ensures.bytes) c.in_default.is c.bad.ensures

pub returns : goal.returns
unfolding readimage_answer
returns c =
    bytes_known c.word.ensures _ _ c.room-bytes.ensures.size (c.bytes.ensures.count, c.bytes.ensures.bytes) c.in-Some.is c.first.ensures
    (rw c.restore.ensures.answer at c.image_read.ensures)
