-- `answers::first_word` meets its contract. Assumes nothing.
use Rattle.answers.proofs.first_word.Goals as goal

pub returns : goal.returns
returns c = rw c.number_in.ensures at c.refusal.ensures
