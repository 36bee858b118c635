-- `asked::read_run` meets its contract, by what was read. Assumes nothing.
use mathlib.Core.Path.{sym, ◌∙◌}
use Prim.Native.Nat.{ℕ}
use lib.ListN.{length-replicate}
use Rattle.refusals.specs.Laws.{told_ok, told_err}
use Rattle.fields.proofs.Reading.{some_bytes, no_bytes_in}
use Rattle.asked.specs.Laws.{no_bytes, no_image, an_image}
use Rattle.asked.proofs.read_run.Goals as goal

pub returns-in_err-n : goal.returns-in_err-n
returns-in_err-n c =
    c.from_residual.ensures ∙ no_bytes _ (no_bytes_in _ _ (length-replicate {A = ℕ} 3236 0) (c.bytes.ensures.count, c.bytes.ensures.bytes) c.in_err-n.was)

pub returns-then-is_err : goal.returns-then-is_err
returns-then-is_err c =
    let b_is = some_bytes _ _ (length-replicate {A = ℕ} 3236 0) (c.bytes.ensures.count, c.bytes.ensures.bytes) c.in_ok-n.was c.first-image.ensures in
    no_image _ _ b_is (λ e. told_err _ (sym c.is_err.ensures.value ∙ c.if-is_err.true) (c.refusal.ensures ∙ e))

pub returns : goal.returns
returns c =
    let b_is = some_bytes _ _ (length-replicate {A = ℕ} 3236 0) (c.bytes.ensures.count, c.bytes.ensures.bytes) c.in_ok-n.was c.first-image.ensures in
    an_image _ _ b_is _ (sym c.refusal.ensures ∙ told_ok _ (sym c.is_err.ensures.value ∙ c.if-is_err.false)) c.run_in.ensures
