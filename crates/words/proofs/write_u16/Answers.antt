-- `words::write_u16` meets its contract. Assumes nothing.
use mathlib.Core.Path.{refl, ◌∙◌}
use Rattle.words.specs.Words.{bytes}
use Rattle.words.proofs.Steps.{put_bytes}
use Rattle.words.proofs.write_u16.Goals as goal

pub returns : goal.returns
unfolding bytes
returns c = put_bytes 2 _ _ _ _ _ (c.copy_from_slice.ensures.after ∙ c.to_le_bytes.ensures) refl
