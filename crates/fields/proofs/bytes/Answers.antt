-- `fields::bytes` meets its contract, by its tests in their order. Assumes nothing.
use mathlib.Core.Path.{sym, ◌∙◌}
use Rattle.fields.proofs.Steps.{is_nothing, is_something, bytes_none, bytes_empty, bytes_some}
use Rattle.fields.proofs.bytes.Goals as goal

pub returns-then-is_none : goal.returns-then-is_none
returns-then-is_none c =
    let all = bytes_none _ _ (sym c.is_none.ensures ∙ c.if-is_none.true) in record { count = all.0; bytes = all.1 }

pub returns-then-is_empty : goal.returns-then-is_empty
returns-then-is_empty c =
    let all = bytes_empty _ _ (sym c.is_none.ensures ∙ c.if-is_none.false) (is_nothing c.is_empty.ensures c.if-is_empty.true) in record { count = all.0; bytes = all.1 }

pub returns : goal.returns
returns c =
    let all = bytes_some _ _ _ _ (sym c.is_none.ensures ∙ c.if-is_none.false) (is_something c.is_empty.ensures c.if-is_empty.false) (c.read.ensures.count, c.read.ensures.bytes) in record { count = all.0; bytes = all.1 }
