-- `Run::selection` meets its contract: the keys stand for the run's ranking. Assumes nothing.
use mathlib.Core.Path.{sym, ◌∙◌}
use Rattle.run.proofs.SoundLaws.{sound_iff}
use Rattle.run.proofs.Testing.{keyed_by}
use Rattle.run.proofs.Asking.{selection_refused, selection_told}
use Rattle.run.proofs.Run.selection.Goals as goal

pub returns-then-not-is_sound : goal.returns-then-not-is_sound
returns-then-not-is_sound c = selection_refused _ (sym c.is_sound.ensures ∙ c.if-not-is_sound.true)

pub selected-requires : goal.selected-requires
selected-requires c =
    let w = (sound_iff _).0 (sym c.is_sound.ensures ∙ c.if-not-is_sound.false) in
    (w.pages.1, w.slots.1)

pub returns : goal.returns
returns c =
    let e = sym c.is_sound.ensures ∙ c.if-not-is_sound.false in
    selection_told _ _ _ e (keyed_by _ _ _ ((sound_iff _).0 e).pages.1 c.keys-keys.ensures.table c.keys-keys.ensures.narrow) c.selected.ensures
