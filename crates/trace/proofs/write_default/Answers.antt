-- `trace::write_default` meets its contract: the table of default priorities, and then as `write`. Assumes nothing.
use mathlib.Core.Path.{sym, ap, ◌∙◌}
use Rattle.refusals.specs.Numbers.{told}
use Rattle.refusals.specs.Laws.{number_some}
use Rattle.trace.proofs.Writing.{write_refused, refuse_limited, default_part}
use Rattle.trace.proofs.write_default.Goals as goal

pub returns-in-Err : goal.returns-in-Err
returns-in-Err c =
    let told_is = sym (ap told c.in-Err.is) ∙ c.limits_refusal.ensures in
    let all = write_refused _ _ _ _ _ _ _ (refuse_limited _ _ _ _ _ _ _ told_is (number_some _)) (number_some _) _ c.unwritten.ensures in
    record { answer = all.0; buffer = all.1 }

pub returns : goal.returns
returns c =
    let e = default_part _ _ c.default_priorities-priorities.ensures in
    record { answer = rw e at c.write.ensures.answer; buffer = rw e at c.write.ensures.buffer }
