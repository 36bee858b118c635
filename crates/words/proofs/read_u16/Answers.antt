-- `words::read_u16` meets its contract. Assumes nothing.
use mathlib.Core.Path.{◌∙◌}
use Rattle.words.proofs.Steps.{read_two}
use Rattle.words.proofs.read_u16.Goals as goal

pub returns : goal.returns
returns c = c.from_le_bytes.ensures ∙ read_two _ _ c.requires
