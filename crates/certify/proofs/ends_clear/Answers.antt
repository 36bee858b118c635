-- `certify::ends_clear` meets its contract: both tests together. Assumes nothing.
use Rattle.std.specs.Prelude.{true, false, drop}
use mathlib.Core.Path.{◌≡◌, sym, ◌∙◌}
use Rattle.paging.specs.Sets.{only}
use Rattle.layers.proofs.Passes.{only_told}
use Rattle.certify.specs.Test.{ends_clear}
use Rattle.certify.proofs.ends_clear.Goals as goal

pub returns-then-only_from : goal.returns-then-only_from
unfolding ends_clear
returns-then-only_from c =
    let first : only 0 (drop c.args.pages c.args.layer.now) ≡ true = sym (only_told 0 _ _ c.only_from.ensures) ∙ c.if-only_from.true in
    rw first (only_told 65535 _ _ c.only_from-then-only_from.ensures)

pub returns-else-only_from : goal.returns-else-only_from
unfolding ends_clear
returns-else-only_from c =
    let first : only 0 (drop c.args.pages c.args.layer.now) ≡ false = sym (only_told 0 _ _ c.only_from.ensures) ∙ c.if-only_from.false in
    rw first c.if-only_from.false
