-- `Run::store` meets its contract: what is not refused is written. Assumes nothing.
use mathlib.Core.Path.{refl, sym, ap, ◌∙◌}
use native.Mathlib.Omega.{arith}
use Rattle.refusals.specs.Numbers.{told}
use Rattle.refusals.specs.Laws.{told_fine, given_some, number_some}
use Rattle.words.specs.Words.{put}
use Rattle.run.proofs.Storing.{store_fits, stored_refused, stored_untouched, stored_told, stored_put, parts_fit, parts_image, length_is}
use Rattle.run.proofs.Run.store.Goals as goal

pub returns-in-Err : goal.returns-in-Err
returns-in-Err c =
    let told_is = sym (ap told c.in-Err.is) ∙ c.store_refusal.ensures in
    record {
      answer = rw (given_some _ _ told_is) (stored_refused _ _ _ refl (λ z. number_some _ (told_is ∙ z)));
      buffer = stored_untouched _ _ _ refl (λ z. number_some _ (told_is ∙ z));
    }

pub write-requires : goal.write-requires
write-requires c =
    let z = told_fine _ c.in_default.not-Err in
    let run = store_fits _ _ (sym c.store_refusal.ensures ∙ z) in
    let all = parts_fit c.args.self c.parts.ensures.sizes c.parts.ensures.tables run in record { limits = all.0; narrow = all.1 }

pub overflow_mul-result : goal.overflow_mul-result
overflow_mul-result c =
    let z = told_fine _ c.in_default.not-Err in
    let f = store_fits _ _ (sym c.store_refusal.ensures ∙ z) in
    omega (arith, f.0)

pub overflow_add-result : goal.overflow_add-result
overflow_add-result c =
    let z = told_fine _ c.in_default.not-Err in
    let f = store_fits _ _ (sym c.store_refusal.ensures ∙ z) in
    omega (arith, f.0)

pub overflow_mul-result-2 : goal.overflow_mul-result-2
overflow_mul-result-2 c =
    let z = told_fine _ c.in_default.not-Err in
    let f = store_fits _ _ (sym c.store_refusal.ensures ∙ z) in
    omega (arith, f.0)

pub overflow_add-result-2 : goal.overflow_add-result-2
overflow_add-result-2 c =
    let z = told_fine _ c.in_default.not-Err in
    let f = store_fits _ _ (sym c.store_refusal.ensures ∙ z) in
    omega (arith, f.0)

pub returns : goal.returns
returns c =
    let p = c.parts.ensures in
    let image = c.write.ensures ∙ ap (put _ 0) (parts_image _ p.sizes p.tables p.numbers) in
    record {
      answer = stored_told _ _ _ c.store_refusal.ensures _ (told_fine _ c.in_default.not-Err) (length_is _ _);
      buffer = stored_put _ _ _ c.store_refusal.ensures _ (told_fine _ c.in_default.not-Err) image;
    }
