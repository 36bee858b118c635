-- `text::tell_line` meets its contract: in each arm, what the calls tell makes the whole, piece by piece. Assumes nothing.
use native.Mathlib.Omega.{arith}
use Rattle.std.specs.Prelude.{◌++◌}
use Rattle.refusals.specs.Numbers.{number}
use Rattle.text.specs.Text.{event_line, then_number, word_hit, word_swap, word_refused, line_end}
use Rattle.text.specs.Telling.{next_room, more, last_room, finish}
use Rattle.text.proofs.Steps.{begin_event}
use Rattle.text.proofs.tell_line.Goals as goal

pub tell_entry-first-requires : goal.tell_entry-first-requires
unfolding event_line
tell_entry-first-requires g c =
    next_room (word_hit ++ then_number c.args.page) (then_number c.in-Hit.slot ++ (then_number c.args.best ++ line_end)) (begin_event _ _ _ _ _ _ _ _ c.in-Hit.is c.requires)

pub tell_next-second-requires : goal.tell_next-second-requires
unfolding event_line
tell_next-second-requires g c =
    next_room (then_number c.in-Hit.slot) (then_number c.args.best ++ line_end) (more (word_hit ++ then_number c.args.page) (then_number c.in-Hit.slot ++ (then_number c.args.best ++ line_end)) (begin_event _ _ _ _ _ _ _ _ c.in-Hit.is c.requires) c.tell_entry-first.ensures.offset c.tell_entry-first.ensures.text)

pub tell_next-third-requires : goal.tell_next-third-requires
unfolding event_line
tell_next-third-requires g c =
    next_room (then_number c.args.best) line_end (more (then_number c.in-Hit.slot) (then_number c.args.best ++ line_end) (more (word_hit ++ then_number c.args.page) (then_number c.in-Hit.slot ++ (then_number c.args.best ++ line_end)) (begin_event _ _ _ _ _ _ _ _ c.in-Hit.is c.requires) c.tell_entry-first.ensures.offset c.tell_entry-first.ensures.text) c.tell_next-second.ensures.offset c.tell_next-second.ensures.text)

pub word-requires : goal.word-requires
unfolding event_line
word-requires g c =
    last_room (more (then_number c.args.best) line_end (more (then_number c.in-Hit.slot) (then_number c.args.best ++ line_end) (more (word_hit ++ then_number c.args.page) (then_number c.in-Hit.slot ++ (then_number c.args.best ++ line_end)) (begin_event _ _ _ _ _ _ _ _ c.in-Hit.is c.requires) c.tell_entry-first.ensures.offset c.tell_entry-first.ensures.text) c.tell_next-second.ensures.offset c.tell_next-second.ensures.text) c.tell_next-third.ensures.offset c.tell_next-third.ensures.text)

pub returns-in-Hit : goal.returns-in-Hit
unfolding event_line
returns-in-Hit g c =
    rw c.in-Hit.is (let all = finish (more (then_number c.args.best) line_end (more (then_number c.in-Hit.slot) (then_number c.args.best ++ line_end) (more (word_hit ++ then_number c.args.page) (then_number c.in-Hit.slot ++ (then_number c.args.best ++ line_end)) (begin_event _ _ _ _ _ _ _ _ c.in-Hit.is c.requires) c.tell_entry-first.ensures.offset c.tell_entry-first.ensures.text) c.tell_next-second.ensures.offset c.tell_next-second.ensures.text) c.tell_next-third.ensures.offset c.tell_next-third.ensures.text) c.word.ensures.offset c.word.ensures.text in record { offset = omega (arith, all.0); text = all.1 })

pub tell_entry-first-requires-in-Miss : goal.tell_entry-first-requires-in-Miss
unfolding event_line
tell_entry-first-requires-in-Miss g c =
    next_room (word_swap ++ then_number c.args.page) (then_number c.in-Miss.slot ++ (then_number c.in-Miss.victim ++ (then_number c.args.best ++ line_end))) (begin_event _ _ _ _ _ _ _ _ c.in-Miss.is c.requires)

pub tell_next-second-requires-in-Miss : goal.tell_next-second-requires-in-Miss
unfolding event_line
tell_next-second-requires-in-Miss g c =
    next_room (then_number c.in-Miss.slot) (then_number c.in-Miss.victim ++ (then_number c.args.best ++ line_end)) (more (word_swap ++ then_number c.args.page) (then_number c.in-Miss.slot ++ (then_number c.in-Miss.victim ++ (then_number c.args.best ++ line_end))) (begin_event _ _ _ _ _ _ _ _ c.in-Miss.is c.requires) c.tell_entry-first-in-Miss.ensures.offset c.tell_entry-first-in-Miss.ensures.text)

pub tell_next-third-requires-in-Miss : goal.tell_next-third-requires-in-Miss
unfolding event_line
tell_next-third-requires-in-Miss g c =
    next_room (then_number c.in-Miss.victim) (then_number c.args.best ++ line_end) (more (then_number c.in-Miss.slot) (then_number c.in-Miss.victim ++ (then_number c.args.best ++ line_end)) (more (word_swap ++ then_number c.args.page) (then_number c.in-Miss.slot ++ (then_number c.in-Miss.victim ++ (then_number c.args.best ++ line_end))) (begin_event _ _ _ _ _ _ _ _ c.in-Miss.is c.requires) c.tell_entry-first-in-Miss.ensures.offset c.tell_entry-first-in-Miss.ensures.text) c.tell_next-second-in-Miss.ensures.offset c.tell_next-second-in-Miss.ensures.text)

pub tell_next-fourth-requires : goal.tell_next-fourth-requires
unfolding event_line
tell_next-fourth-requires g c =
    next_room (then_number c.args.best) line_end (more (then_number c.in-Miss.victim) (then_number c.args.best ++ line_end) (more (then_number c.in-Miss.slot) (then_number c.in-Miss.victim ++ (then_number c.args.best ++ line_end)) (more (word_swap ++ then_number c.args.page) (then_number c.in-Miss.slot ++ (then_number c.in-Miss.victim ++ (then_number c.args.best ++ line_end))) (begin_event _ _ _ _ _ _ _ _ c.in-Miss.is c.requires) c.tell_entry-first-in-Miss.ensures.offset c.tell_entry-first-in-Miss.ensures.text) c.tell_next-second-in-Miss.ensures.offset c.tell_next-second-in-Miss.ensures.text) c.tell_next-third-in-Miss.ensures.offset c.tell_next-third-in-Miss.ensures.text)

pub word-requires-in-Miss : goal.word-requires-in-Miss
unfolding event_line
word-requires-in-Miss g c =
    last_room (more (then_number c.args.best) line_end (more (then_number c.in-Miss.victim) (then_number c.args.best ++ line_end) (more (then_number c.in-Miss.slot) (then_number c.in-Miss.victim ++ (then_number c.args.best ++ line_end)) (more (word_swap ++ then_number c.args.page) (then_number c.in-Miss.slot ++ (then_number c.in-Miss.victim ++ (then_number c.args.best ++ line_end))) (begin_event _ _ _ _ _ _ _ _ c.in-Miss.is c.requires) c.tell_entry-first-in-Miss.ensures.offset c.tell_entry-first-in-Miss.ensures.text) c.tell_next-second-in-Miss.ensures.offset c.tell_next-second-in-Miss.ensures.text) c.tell_next-third-in-Miss.ensures.offset c.tell_next-third-in-Miss.ensures.text) c.tell_next-fourth.ensures.offset c.tell_next-fourth.ensures.text)

pub returns-in-Miss : goal.returns-in-Miss
unfolding event_line
returns-in-Miss g c =
    rw c.in-Miss.is (let all = finish (more (then_number c.args.best) line_end (more (then_number c.in-Miss.victim) (then_number c.args.best ++ line_end) (more (then_number c.in-Miss.slot) (then_number c.in-Miss.victim ++ (then_number c.args.best ++ line_end)) (more (word_swap ++ then_number c.args.page) (then_number c.in-Miss.slot ++ (then_number c.in-Miss.victim ++ (then_number c.args.best ++ line_end))) (begin_event _ _ _ _ _ _ _ _ c.in-Miss.is c.requires) c.tell_entry-first-in-Miss.ensures.offset c.tell_entry-first-in-Miss.ensures.text) c.tell_next-second-in-Miss.ensures.offset c.tell_next-second-in-Miss.ensures.text) c.tell_next-third-in-Miss.ensures.offset c.tell_next-third-in-Miss.ensures.text) c.tell_next-fourth.ensures.offset c.tell_next-fourth.ensures.text) c.word-in-Miss.ensures.offset c.word-in-Miss.ensures.text in record { offset = omega (arith, all.0); text = all.1 })

pub tell_entry-first-requires-in-Refused : goal.tell_entry-first-requires-in-Refused
unfolding event_line
tell_entry-first-requires-in-Refused g c =
    next_room (word_refused ++ then_number c.args.page) (then_number (number c.in-Refused.refusal) ++ line_end) (begin_event _ _ _ _ _ _ _ _ c.in-Refused.is c.requires)

pub tell_next-second-requires-in-Refused : goal.tell_next-second-requires-in-Refused
unfolding event_line
tell_next-second-requires-in-Refused g c =
    rw (c.from.ensures, c.number.ensures) (next_room (then_number (number c.in-Refused.refusal)) line_end (more (word_refused ++ then_number c.args.page) (then_number (number c.in-Refused.refusal) ++ line_end) (begin_event _ _ _ _ _ _ _ _ c.in-Refused.is c.requires) c.tell_entry-first-in-Refused.ensures.offset c.tell_entry-first-in-Refused.ensures.text))

pub word-requires-in-Refused : goal.word-requires-in-Refused
unfolding event_line
word-requires-in-Refused g c =
    last_room (more (then_number (number c.in-Refused.refusal)) line_end (more (word_refused ++ then_number c.args.page) (then_number (number c.in-Refused.refusal) ++ line_end) (begin_event _ _ _ _ _ _ _ _ c.in-Refused.is c.requires) c.tell_entry-first-in-Refused.ensures.offset c.tell_entry-first-in-Refused.ensures.text) (rw (c.from.ensures, c.number.ensures) at c.tell_next-second-in-Refused.ensures.offset) (rw (c.from.ensures, c.number.ensures) at c.tell_next-second-in-Refused.ensures.text))

pub returns-in-Refused : goal.returns-in-Refused
unfolding event_line
returns-in-Refused g c =
    rw c.in-Refused.is (let all = finish (more (then_number (number c.in-Refused.refusal)) line_end (more (word_refused ++ then_number c.args.page) (then_number (number c.in-Refused.refusal) ++ line_end) (begin_event _ _ _ _ _ _ _ _ c.in-Refused.is c.requires) c.tell_entry-first-in-Refused.ensures.offset c.tell_entry-first-in-Refused.ensures.text) (rw (c.from.ensures, c.number.ensures) at c.tell_next-second-in-Refused.ensures.offset) (rw (c.from.ensures, c.number.ensures) at c.tell_next-second-in-Refused.ensures.text)) c.word-in-Refused.ensures.offset c.word-in-Refused.ensures.text in record { offset = omega (arith, all.0); text = all.1 })
