-- `text::tell_first_line` meets its contract: what its calls tell makes the whole, piece by piece. Assumes nothing.
use native.Mathlib.Omega.{arith}
use Rattle.std.specs.Prelude.{◌++◌}
use Rattle.text.specs.Text.{first_line, then_entry, then_number, word_pages, word_slots, word_requests, line_end}
use Rattle.text.specs.Telling.{begin, told_from, next_room, more, last_room, finish}
use Rattle.text.proofs.tell_first_line.Goals as goal

pub tell_entry-first-requires : goal.tell_entry-first-requires
unfolding first_line then_entry
tell_entry-first-requires g c =
    next_room (word_pages ++ then_number c.args.pages) (then_entry word_slots c.args.slots ++ (then_entry word_requests c.args.requests ++ line_end)) (begin _ _ _ _ _ c.requires)

pub tell_entry-second-requires : goal.tell_entry-second-requires
unfolding first_line then_entry
tell_entry-second-requires g c =
    omega (arith, next_room (then_entry word_slots c.args.slots) (then_entry word_requests c.args.requests ++ line_end) (more (word_pages ++ then_number c.args.pages) (then_entry word_slots c.args.slots ++ (then_entry word_requests c.args.requests ++ line_end)) (begin _ _ _ _ _ c.requires) c.tell_entry-first.ensures.offset c.tell_entry-first.ensures.text))

pub tell_entry-third-requires : goal.tell_entry-third-requires
unfolding first_line then_entry
tell_entry-third-requires g c =
    next_room (then_entry word_requests c.args.requests) line_end (more (then_entry word_slots c.args.slots) (then_entry word_requests c.args.requests ++ line_end) (more (word_pages ++ then_number c.args.pages) (then_entry word_slots c.args.slots ++ (then_entry word_requests c.args.requests ++ line_end)) (begin _ _ _ _ _ c.requires) c.tell_entry-first.ensures.offset c.tell_entry-first.ensures.text) (omega (arith, c.tell_entry-second.ensures.offset)) (told_from _ _ _ _ _ _ _ c.tell_entry-second.ensures.text (omega arith)))

pub word-requires : goal.word-requires
unfolding first_line then_entry
word-requires g c =
    last_room (more (then_entry word_requests c.args.requests) line_end (more (then_entry word_slots c.args.slots) (then_entry word_requests c.args.requests ++ line_end) (more (word_pages ++ then_number c.args.pages) (then_entry word_slots c.args.slots ++ (then_entry word_requests c.args.requests ++ line_end)) (begin _ _ _ _ _ c.requires) c.tell_entry-first.ensures.offset c.tell_entry-first.ensures.text) (omega (arith, c.tell_entry-second.ensures.offset)) (told_from _ _ _ _ _ _ _ c.tell_entry-second.ensures.text (omega arith))) c.tell_entry-third.ensures.offset c.tell_entry-third.ensures.text)

pub returns : goal.returns
unfolding first_line then_entry
returns g c =
    let all = finish (more (then_entry word_requests c.args.requests) line_end (more (then_entry word_slots c.args.slots) (then_entry word_requests c.args.requests ++ line_end) (more (word_pages ++ then_number c.args.pages) (then_entry word_slots c.args.slots ++ (then_entry word_requests c.args.requests ++ line_end)) (begin _ _ _ _ _ c.requires) c.tell_entry-first.ensures.offset c.tell_entry-first.ensures.text) (omega (arith, c.tell_entry-second.ensures.offset)) (told_from _ _ _ _ _ _ _ c.tell_entry-second.ensures.text (omega arith))) c.tell_entry-third.ensures.offset c.tell_entry-third.ensures.text) c.word.ensures.offset c.word.ensures.text in record { offset = omega (arith, all.0); text = all.1 }
