-- `text::write_word` meets its contract: the word in the part's place. Assumes nothing.
use native.Mathlib.Omega.{arith}
use Rattle.text.proofs.Steps.{copied}
use Rattle.text.proofs.write_word.Goals as goal

pub returns-clause-text : goal.returns-clause-text
returns-clause-text c = copied _ _ _ _ _ (omega arith) c.copy_from_slice.ensures.after
