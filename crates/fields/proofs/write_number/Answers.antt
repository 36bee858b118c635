-- `fields::write_number` meets its contract: what is copied are the digits. Assumes nothing.
use native.Mathlib.Omega.{arith}
use Rattle.text.specs.Laws.{decimal_short}
use Rattle.fields.proofs.Reading.{first_put}
use Rattle.fields.proofs.write_number.Goals as goal

pub write_number-count-requires : goal.write_number-count-requires
write_number-count-requires c = omega (arith, decimal_short c.args.n)

pub returns : goal.returns
returns c =
    let short = decimal_short c.args.n in
    rw (first_put _ _ short (c.write_number-count.ensures.offset, c.write_number-count.ensures.text) c.first.ensures) at c.write_word.ensures
