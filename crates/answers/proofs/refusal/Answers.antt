-- `answers::refusal` meets its contract. Assumes nothing.
use Rattle.answers.specs.Answers.{refusal_texts}
use Rattle.answers.proofs.refusal.Goals as goal

pub returns : goal.returns
unfolding refusal_texts
returns c = rw c.from.ensures at c.write_number.ensures
