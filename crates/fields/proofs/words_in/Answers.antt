-- `fields::words_in` meets its contract, by the invariant of its loop. Assumes nothing.
use Prim.Native.Nat.{◌+◌, ◌≤◌}
use mathlib.Core.Bool.{Bool}
use mathlib.Core.Path.{◌≡◌, ◌∙◌}
use native.Mathlib.Omega.{arith}
use borrow.Author.Rules.{rules}
use lib.ListN.{length, get_or}
use Rattle.paging.specs.Sets.{◌=?◌, bit}
use Rattle.paging.specs.Tests.{bit_le}
use Rattle.fields.proofs.Steps.{byte_bit, separators_next, separators_end}
use Rattle.fields.proofs.words_in.Goals as goal

pub loop-c-preserved : goal.loop-c-preserved
loop-c-preserved c =
    let here : Bool = get_or c.args.line.now c.loop-c.c-index 0 =? 32 in
    let one : c.from-n.result ≡ bit here = c.from-n.ensures ∙ byte_bit here in
    (omega (arith, one, bit_le here), omega (arith, one, separators_next 32 c.args.line.now c.loop-c.c-index c.loop-c-test.true))

pub returns : goal.returns
returns c = omega (arith, c.loop-c.invariant, separators_end 32 c.args.line.now c.loop-c.c-index (search rules))
