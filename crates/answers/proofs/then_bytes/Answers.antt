-- `answers::then_bytes` meets its contract. Assumes nothing.
use Rattle.hexadecimal.specs.Laws.{wrote_then}
use Rattle.answers.specs.Answers.{bytes_texts}
use Rattle.answers.proofs.then_bytes.Goals as goal

pub returns : goal.returns
unfolding bytes_texts
returns c = wrote_then c.write_word-next.ensures c.write_bytes.ensures
