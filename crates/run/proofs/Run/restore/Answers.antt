-- `Run::restore` meets its contract, by its tests in their order. Assumes nothing.
use mathlib.Core.Path.{sym, ap, ◌∙◌}
use native.Mathlib.Omega.{arith}
use Rattle.refusals.specs.Numbers.{told}
use Rattle.refusals.specs.Laws.{told_fine}
use Rattle.run.proofs.Storing.{with_number, restored_refused, restored_unequal, restored_unsound, restored_accepted, image_fits, run_pages, run_slots, agree_in, sound_in}
use Rattle.run.proofs.Run.restore.Goals as goal

pub returns-in-Err : goal.returns-in-Err
returns-in-Err c =
    let all = with_number _ _ (restored_refused _ _ c.refusal.ensures _ _ (sym (ap told c.in-Err.is)) c.blank.ensures) in record { answer = all.0; number = all.1 }

pub of_image-self-requires : goal.of_image-self-requires
of_image-self-requires c =
    let z = told_fine _ c.in_default.not-Err in
    sym c.refusal.ensures ∙ z

pub agree-requires : goal.agree-requires
agree-requires c =
    let z = told_fine _ c.in_default.not-Err in
    let f = image_fits _ _ _ (sym c.refusal.ensures ∙ z) (run_pages _ _ c.of_image-self.ensures) (run_slots _ _ c.of_image-self.ensures) in
    (f.0, f.1, omega arith)

pub returns-then-not-agree : goal.returns-then-not-agree
returns-then-not-agree c =
    let all = with_number _ _
    (restored_unequal _ _ c.refusal.ensures (told_fine _ c.in_default.not-Err) _
    (sym (agree_in _ _ c.of_image-self.ensures) ∙ (sym c.agree.ensures ∙ c.if-not-agree.true))
    c.blank-then-not-agree.ensures) in record { answer = all.0; number = all.1 }

pub returns-then-not-is_sound : goal.returns-then-not-is_sound
returns-then-not-is_sound c =
    let all = with_number _ _
    (restored_unsound _ _ c.refusal.ensures (told_fine _ c.in_default.not-Err)
    (sym (agree_in _ _ c.of_image-self.ensures) ∙ (sym c.agree.ensures ∙ c.if-not-agree.false))
    _
    (sym (sound_in _ _ c.of_image-self.ensures) ∙ (sym c.is_sound.ensures ∙ c.if-not-is_sound.true))
    c.blank-then-not-is_sound.ensures) in record { answer = all.0; number = all.1 }

pub returns : goal.returns
returns c =
    let all = with_number _ _
    (restored_accepted _ _ c.refusal.ensures (told_fine _ c.in_default.not-Err)
    (sym (agree_in _ _ c.of_image-self.ensures) ∙ (sym c.agree.ensures ∙ c.if-not-agree.false))
    _
    c.of_image-self.ensures
    (sym c.is_sound.ensures ∙ c.if-not-is_sound.false)) in record { answer = all.0; number = all.1 }
