-- `Parts::write_header` meets its contract. Assumes nothing.
use Rattle.image.specs.Layout.{image_header}
use Rattle.image.proofs.Parts.write_header.Goals as goal

pub returns : goal.returns
unfolding image_header
returns c = c.write_numbers.ensures
