-- `words::write_u32` meets its contract. Assumes nothing.
use mathlib.Core.Path.{◌∙◌}
use Rattle.words.proofs.Steps.{put_bytes, low_first_4}
use Rattle.words.proofs.write_u32.Goals as goal

pub returns : goal.returns
returns c = put_bytes 4 _ _ _ _ _ (c.copy_from_slice.ensures.after ∙ c.to_le_bytes.ensures) (low_first_4 _)
