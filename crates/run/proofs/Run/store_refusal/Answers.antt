-- `Run::store_refusal` meets its contract, by its tests. Assumes nothing.
use mathlib.Core.Path.{sym, ◌∙◌}
use native.Mathlib.Omega.{arith}
use Rattle.run.proofs.SoundLaws.{sound_iff}
use Rattle.run.proofs.Storing.{store_unsound, store_short, store_none, length_is}
use Rattle.run.proofs.Run.store_refusal.Goals as goal

pub returns-then-not-is_sound : goal.returns-then-not-is_sound
returns-then-not-is_sound c = store_unsound _ _ (sym c.is_sound.ensures ∙ c.if-not-is_sound.true)

pub overflow_mul-self : goal.overflow_mul-self
overflow_mul-self c =
    let w = (sound_iff _).0 (sym c.is_sound.ensures ∙ c.if-not-is_sound.false) in
    omega (arith, w.pages)

pub overflow_add-self : goal.overflow_add-self
overflow_add-self c =
    let w = (sound_iff _).0 (sym c.is_sound.ensures ∙ c.if-not-is_sound.false) in
    omega (arith, w.pages)

pub overflow_mul-self-2 : goal.overflow_mul-self-2
overflow_mul-self-2 c =
    let w = (sound_iff _).0 (sym c.is_sound.ensures ∙ c.if-not-is_sound.false) in
    omega (arith, w.slots)

pub overflow_add-self-2 : goal.overflow_add-self-2
overflow_add-self-2 c =
    let w = (sound_iff _).0 (sym c.is_sound.ensures ∙ c.if-not-is_sound.false) in
    omega (arith, w.pages, w.slots)

pub returns-then-out-self : goal.returns-then-out-self
returns-then-out-self c = store_short _ _ (sym c.is_sound.ensures ∙ c.if-not-is_sound.false) (omega (arith, length_is c.args.self.pages c.args.self.slots))

pub returns : goal.returns
returns c = store_none _ _ (sym c.is_sound.ensures ∙ c.if-not-is_sound.false) (omega (arith, length_is c.args.self.pages c.args.self.slots))
