-- `frames::copy_page` meets its contract. Assumes nothing.
use Rattle.std.proofs.Common.{arith, sym}
use borrow.Author.Rules.{rules}
use Rattle.frames.proofs.Copy.{taken, copied_first}
use Rattle.frames.proofs.copy_page.Goals as goal

pub slice_bounds-copy_from_slice-end-3 : goal.slice_bounds-copy_from_slice-end-3
slice_bounds-copy_from_slice-end-3 c = search (rules, arith, taken, sym, c.requires)

pub copy_from_slice-requires : goal.copy_from_slice-requires
copy_from_slice-requires c = search (rules, arith, taken, c.requires)

pub returns : goal.returns
returns c = search (rules, copied_first, c.requires, c.copy_from_slice.ensures.after)
