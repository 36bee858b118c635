-- `files::look` meets its contract, by what was read. Assumes nothing.
use Rattle.answers.specs.Laws.{page_known, page_bad, bytes_known, bytes_bad}
use Rattle.files.specs.Files.{look_answer}
use Rattle.files.proofs.look.Goals as goal

pub returns-in_default : goal.returns-in_default
unfolding look_answer
returns-in_default c = search page_bad

pub returns-in_default-bytes : goal.returns-in_default-bytes
unfolding look_answer
returns-in_default-bytes c =
    page_known _ _ c.read_paged.ensures c.in-Some.is
    (bytes_bad c.word.ensures _ _ c.room-area.ensures.size (c.bytes.ensures.count, c.bytes.ensures.bytes) c.in_default-bytes.is c.bad-in_default-bytes.ensures)

pub returns : goal.returns
unfolding look_answer
returns c =
    page_known _ _ c.read_paged.ensures c.in-Some.is
    (bytes_known c.word.ensures _ _ c.room-area.ensures.size (c.bytes.ensures.count, c.bytes.ensures.bytes) c.in-Some-bytes.is c.first.ensures c.looked.ensures)
