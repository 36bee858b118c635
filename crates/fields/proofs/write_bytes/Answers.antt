-- `fields::write_bytes` meets its contract, by its test. Assumes nothing.
use Rattle.hexadecimal.specs.Laws.{wrote_as}
use Rattle.fields.proofs.Steps.{is_nothing, is_something, word_empty, word_some}
use Rattle.fields.proofs.write_bytes.Goals as goal

pub returns-then-is_empty : goal.returns-then-is_empty
returns-then-is_empty c = wrote_as (word_empty _ (is_nothing c.is_empty.ensures c.if-is_empty.true)) c.write_word.ensures

pub returns : goal.returns
returns c = wrote_as (word_some _ (is_something c.is_empty.ensures c.if-is_empty.false)) c.write.ensures
