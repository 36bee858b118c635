-- `files::trace_by` meets its contract, by what was read. Assumes nothing.
use mathlib.Core.Path.{refl}
use Rattle.answers.specs.Laws.{numbers_known, numbers_bad}
use Rattle.answers.proofs.Same.{is_word, other_word}
use Rattle.files.specs.Files.{given_texts, prioritised_texts, trace_texts}
use Rattle.files.proofs.trace_by.Goals as goal

pub returns-then-eq : goal.returns-then-eq
unfolding prioritised_texts trace_texts
returns-then-eq c =
    is_word _ _ _ c.if-eq.true c.eq.ensures c.as_slice.ensures
    (rw (c.write_default-done.ensures.answer, c.write_default-done.ensures.buffer) at c.written.ensures)

pub returns-in_default : goal.returns-in_default
unfolding prioritised_texts given_texts
returns-in_default c =
    other_word _ _ _ c.if-eq.false c.eq.ensures c.as_slice.ensures
    (numbers_bad refl _ _ c.room-room.ensures.size (c.list.ensures.count, c.list.ensures.numbers) c.in_default.is c.bad.ensures)

pub returns : goal.returns
unfolding prioritised_texts given_texts trace_texts
returns c =
    other_word _ _ _ c.if-eq.false c.eq.ensures c.as_slice.ensures
    (numbers_known refl _ _ c.room-room.ensures.size (c.list.ensures.count, c.list.ensures.numbers) c.in-Some.is c.first-priorities.ensures
    (rw (c.write-done.ensures.answer, c.write-done.ensures.buffer) at c.written-2.ensures))
