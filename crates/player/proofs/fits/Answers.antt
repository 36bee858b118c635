-- `player::fits` meets its contract: no answer is longer than the room of the longest, and any other is measured. Assumes nothing.
use mathlib.Core.Path.{◌∙◌}
use borrow.Author.Rules.{rules}
use borrow.Author.Tests.{le-leb}
use Rattle.player.specs.Laws.{long_fits}
use Rattle.player.proofs.fits.Goals as goal

pub returns-then-room-ge-ROOM : goal.returns-then-room-ge-ROOM
returns-then-room-ge-ROOM c = le-leb _ _ (search rules) ∙ long_fits _ _ (search rules)
