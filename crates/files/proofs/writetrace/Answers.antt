-- `files::writetrace` meets its contract, by what was read. Assumes nothing.
use Rattle.answers.specs.Laws.{start_known, start_bad}
use Rattle.files.specs.Files.{writetrace_answer}
use Rattle.files.proofs.writetrace.Goals as goal

pub returns-in_default : goal.returns-in_default
unfolding writetrace_answer
returns-in_default c =
    start_bad _ _ _ c.room-list.ensures.size (c.read_start.ensures.words, c.read_start.ensures.numbers) c.in_default.is c.bad.ensures

pub returns : goal.returns
unfolding writetrace_answer
returns c =
    start_known _ _ _ c.room-list.ensures.size (c.read_start.ensures.words, c.read_start.ensures.numbers) c.in-Some.is c.first.ensures
    c.trace_requested.ensures
