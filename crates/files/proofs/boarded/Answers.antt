-- `files::boarded` meets its contract, by its calls in their order. Assumes nothing.
use Rattle.hexadecimal.specs.Laws.{wrote_then}
use Rattle.answers.specs.Answers.{refusal_texts}
use Rattle.files.specs.Files.{boarded_texts}
use Rattle.files.proofs.boarded.Goals as goal

pub returns : goal.returns
unfolding boarded_texts refusal_texts
returns c =
    rw (← c.timonedra_serve-packed.ensures.answer, ← c.timonedra_serve-packed.ensures.bytes, ← c.from.ensures) (wrote_then c.write_number-next.ensures c.then_bytes.ensures)
