-- `Run::is_sound` meets its contract: the run is tested by its parts. Assumes nothing.
use borrow.Author.Rules.{rules}
use Rattle.run.proofs.Testing.{sound_by_parts}
use Rattle.run.proofs.Run.is_sound.Goals as goal

pub parts_sound-requires : goal.parts_sound-requires
parts_sound-requires c = record { lengths = (search rules, search rules, search rules); keyed = (c.keys-keys.ensures.table, c.keys-keys.ensures.narrow) }

pub returns : goal.returns
returns c = sound_by_parts _ _ c.parts_sound.ensures
