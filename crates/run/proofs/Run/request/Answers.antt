-- `Run::request` meets its contract: an unsound run's request gets 1, a sound run's is refused with 8 or 9, or is served. Assumes
-- nothing.
use mathlib.Core.Bool.{true, false}
use mathlib.Core.Path.{◌≡◌, sym, ap, ◌∙◌}
use borrow.Author.Rules.{rules}
use Rattle.refusals.specs.declared.Refusal.TheVariants.{Unsound}
use Rattle.refusals.specs.Numbers.{told}
use Rattle.refusals.specs.Laws.{told_fine}
use Rattle.run.specs.Sound.{sound}
use Rattle.run.proofs.Testing.{sound_by_parts}
use Rattle.run.proofs.Requesting.{refuse_unsound, refusal_of_sound, not_refused, requested_refused, requested_served, with_values}
use Rattle.run.proofs.Run.request.Goals as goal

pub parts_sound-is_sound-requires : goal.parts_sound-is_sound-requires
parts_sound-is_sound-requires c = record { lengths = (search rules, search rules, search rules); keyed = (c.keys-keys.ensures.table, c.keys-keys.ensures.narrow) }

pub returns-then-not-is_sound : goal.returns-then-not-is_sound
returns-then-not-is_sound c =
    let e : sound c.args.self ≡ false = sym (sound_by_parts _ _ c.parts_sound-is_sound.ensures) ∙ c.if-not-is_sound.true in
    let all = with_values _ _ _ (c.refused.ensures ∙ requested_refused _ _ Unsound (refuse_unsound _ _ e)) in record { answer = all.0; numbers = all.1 }

pub returns-in-Err : goal.returns-in-Err
returns-in-Err c =
    let w : sound c.args.self ≡ true = sym (sound_by_parts _ _ c.parts_sound-is_sound.ensures) ∙ c.if-not-is_sound.false in
    let told_is = sym (ap told c.in-Err.is) ∙ c.refusal-tested.ensures in
    let all = with_values _ _ _ (c.refused-in-Err.ensures ∙ requested_refused _ _ _ (refusal_of_sound _ _ w _ told_is)) in record { answer = all.0; numbers = all.1 }

pub serve-requires : goal.serve-requires
serve-requires c =
    let w : sound c.args.self ≡ true = sym (sound_by_parts _ _ c.parts_sound-is_sound.ensures) ∙ c.if-not-is_sound.false in
    let z = told_fine _ c.in_default.not-Err in
    record { known = not_refused _ _ (sym (refusal_of_sound _ _ w _ c.refusal-tested.ensures) ∙ z); keyed = record { table = c.keys-keys.ensures.table; narrow = c.keys-keys.ensures.narrow } }

pub returns : goal.returns
returns c =
    let w : sound c.args.self ≡ true = sym (sound_by_parts _ _ c.parts_sound-is_sound.ensures) ∙ c.if-not-is_sound.false in
    let z = told_fine _ c.in_default.not-Err in
    let all = with_values _ _ _ (c.serve.ensures ∙ sym (requested_served _ _ (sym (refusal_of_sound _ _ w _ c.refusal-tested.ensures) ∙ z))) in record { answer = all.0; numbers = all.1 }
