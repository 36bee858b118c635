-- `fields::write_list` meets its contract, by its test. Assumes nothing.
use native.Mathlib.Omega.{arith}
use Rattle.hexadecimal.specs.Laws.{wrote_then, wrote_as}
use Rattle.fields.proofs.Lists.{list_some, list_none}
use Rattle.fields.proofs.write_list.Goals as goal

pub returns-in-empty : goal.returns-in-empty
returns-in-empty c = wrote_as (list_none _ (omega arith)) c.write_word.ensures

pub returns-in-len1-up : goal.returns-in-len1-up
returns-in-len1-up c =
    let d = rw c.from.ensures at c.write_number-next.ensures in
    wrote_as (list_some _ (omega arith)) (wrote_then d c.write_more.ensures)
