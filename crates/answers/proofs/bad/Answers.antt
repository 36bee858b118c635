-- `answers::bad` meets its contract. Assumes nothing.
use Rattle.answers.specs.Answers.{bad_line}
use Rattle.answers.proofs.bad.Goals as goal

pub returns : goal.returns
unfolding bad_line
returns c = c.write_word.ensures
