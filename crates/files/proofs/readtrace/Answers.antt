-- `files::readtrace` meets its contract, by what was read. Assumes nothing.
use Rattle.answers.specs.Laws.{bytes_known, bytes_bad}
use Rattle.files.specs.Files.{readtrace_answer}
use Rattle.files.proofs.readtrace.Goals as goal

pub returns-in_default : goal.returns-in_default
unfolding readtrace_answer
returns-in_default c =
    bytes_bad c.word.ensures _ _ c.room-bytes.ensures.size (c.bytes.ensures.count, c.bytes.ensures.bytes) c.in_default.is c.bad.ensures

pub returns : goal.returns
unfolding readtrace_answer
returns c =
    bytes_known c.word.ensures _ _ c.room-bytes.ensures.size (c.bytes.ensures.count, c.bytes.ensures.bytes) c.in-Some.is c.first.ensures
    (rw c.read.ensures at c.trace_read.ensures)
