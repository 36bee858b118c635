-- `words::read_u32` meets its contract. Assumes nothing.
use mathlib.Core.Path.{◌∙◌}
use Rattle.words.proofs.Steps.{read_four}
use Rattle.words.proofs.read_u32.Goals as goal

pub returns : goal.returns
returns c = c.from_le_bytes.ensures ∙ read_four _ _ c.requires
