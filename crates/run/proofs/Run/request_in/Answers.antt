-- `Run::request_in` meets its contract: the reader's tests in their order, and the request's own test for soundness. Assumes nothing.
use mathlib.Core.Path.{◌≡◌, refl, sym, ap, ◌∙◌}
use native.Mathlib.Omega.{arith}
use borrow.Author.Rules.{rules}
use denote.Enum.Bare.{same_true, same_false}
use Rattle.refusals.specs.contracts.Refusal.{the_type}
use Rattle.refusals.specs.declared.Refusal.TheVariants.{Unsound}
use Rattle.refusals.specs.Numbers.{told}
use Rattle.refusals.specs.Laws.{told_fine}
use Rattle.serve.specs.declared.Event.TheVariants.{Refused}
use Rattle.run.specs.declared.Served.{Served}
use Rattle.run.proofs.Storing.{restored_refused, restored_unequal, restored_unsound, restored_accepted, image_fits, run_pages, run_slots, agree_in, sound_in, in_refused, in_accepted, one_unsound, not_one_sound}
use Rattle.run.proofs.Refusals.{other_refusal}
use Rattle.run.proofs.Run.request_in.Goals as goal

pub returns-in-Err : goal.returns-in-Err
returns-in-Err c =
    in_refused _ _ _ _ _ refl
    (restored_refused _ _ c.refusal.ensures _ _ (sym (ap told c.in-Err.is)) refl)
    c.unread.ensures

pub of_image-self-requires : goal.of_image-self-requires
of_image-self-requires c =
    let z = told_fine _ c.in_default.not-Err in
    sym c.refusal.ensures ∙ z

pub agree-requires : goal.agree-requires
agree-requires c =
    let z = told_fine _ c.in_default.not-Err in
    let f = image_fits _ _ _ (sym c.refusal.ensures ∙ z) (run_pages _ _ c.of_image-self.ensures) (run_slots _ _ c.of_image-self.ensures) in
    (f.0, f.1, omega arith)

pub returns-then-not-agree : goal.returns-then-not-agree
returns-then-not-agree c =
    in_refused _ _ _ _ _ refl
    (restored_unequal _ _ c.refusal.ensures (told_fine _ c.in_default.not-Err) _
    (sym (agree_in _ _ c.of_image-self.ensures) ∙ (sym c.agree.ensures ∙ c.if-not-agree.true))
    refl)
    c.unread-then-not-agree.ensures

pub returns-then-eq : goal.returns-then-eq
returns-then-eq c =
    let is : c.in-Refused.refusal ≡ Unsound = same_true the_type (search rules) _ _ (sym c.eq.ensures ∙ c.if-eq.true) in
    let one = sym (ap (λ (s : Served). s.event) c.request-served.ensures.answer) ∙ (c.in-Refused.is ∙ ap Refused is) in
    in_refused _ _ _ _ _ refl
    (restored_unsound _ _ c.refusal.ensures (told_fine _ c.in_default.not-Err)
    (sym (agree_in _ _ c.of_image-self.ensures) ∙ (sym c.agree.ensures ∙ c.if-not-agree.false))
    _
    (sym (sound_in _ _ c.of_image-self.ensures) ∙ one_unsound _ _ one)
    refl)
    c.unread-then-eq.ensures

pub returns-else-eq : goal.returns-else-eq
returns-else-eq c =
    let other : c.in-Refused.refusal ≡ Unsound → ⊥ = same_false the_type _ _ (sym c.eq.ensures ∙ c.if-eq.false) in
    let sound_is = not_one_sound _ _ (λ e. other_refusal _ Unsound other (sym c.in-Refused.is ∙ (ap (λ (s : Served). s.event) c.request-served.ensures.answer ∙ e))) in
    in_accepted _ _ _ _
    (restored_accepted _ _ c.refusal.ensures (told_fine _ c.in_default.not-Err)
    (sym (agree_in _ _ c.of_image-self.ensures) ∙ (sym c.agree.ensures ∙ c.if-not-agree.false))
    _
    c.of_image-self.ensures
    sound_is)
    c.request-served.ensures.answer

pub returns-in_default-event : goal.returns-in_default-event
returns-in_default-event c =
    let sound_is = not_one_sound _ _ (λ e. c.in_default-event.not-Refused Unsound (ap (λ (s : Served). s.event) c.request-served.ensures.answer ∙ e)) in
    in_accepted _ _ _ _
    (restored_accepted _ _ c.refusal.ensures (told_fine _ c.in_default.not-Err)
    (sym (agree_in _ _ c.of_image-self.ensures) ∙ (sym c.agree.ensures ∙ c.if-not-agree.false))
    _
    c.of_image-self.ensures
    sound_is)
    c.request-served.ensures.answer
