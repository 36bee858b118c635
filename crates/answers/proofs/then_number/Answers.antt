-- `answers::then_number` meets its contract. Assumes nothing.
use Rattle.hexadecimal.specs.Laws.{wrote_then}
use Rattle.answers.specs.Answers.{number_texts}
use Rattle.answers.proofs.then_number.Goals as goal

pub returns : goal.returns
unfolding number_texts
returns c = wrote_then c.write_word-next.ensures c.write_number.ensures
