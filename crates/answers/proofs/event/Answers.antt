-- `answers::event` meets its contract. Assumes nothing.
use Rattle.hexadecimal.specs.Laws.{wrote_then}
use Rattle.answers.specs.Answers.{event_texts}
use Rattle.answers.proofs.event.Goals as goal

pub returns-in-Hit : goal.returns-in-Hit
unfolding event_texts
returns-in-Hit c =
    rw (c.in-Hit.is, ← c.from.ensures)
    (wrote_then c.write_word-first.ensures (wrote_then c.then_number-second.ensures c.then_number.ensures))

pub returns-in-Miss : goal.returns-in-Miss
unfolding event_texts
returns-in-Miss c =
    rw (c.in-Miss.is, ← c.from-in-Miss.ensures)
    (wrote_then
    c.write_word-first-in-Miss.ensures
    (wrote_then c.then_number-second-in-Miss.ensures (wrote_then c.then_number-third.ensures c.then_number-in-Miss.ensures)))

pub returns-in-Refused : goal.returns-in-Refused
unfolding event_texts
returns-in-Refused c = rw c.in-Refused.is (rw c.number.ensures at c.refusal.ensures)
