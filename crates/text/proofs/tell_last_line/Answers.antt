-- `text::tell_last_line` meets its contract: what its calls tell makes the whole, piece by piece. Assumes nothing.
use native.Mathlib.Omega.{arith}
use Rattle.std.specs.Prelude.{◌++◌}
use Rattle.text.specs.Text.{last_line, then_entry, then_number, word_served, word_hits, word_misses, word_best, line_end}
use Rattle.text.specs.Telling.{begin, told_from, next_room, more, last_room, finish}
use Rattle.text.proofs.tell_last_line.Goals as goal

pub tell_entry-first-requires : goal.tell_entry-first-requires
unfolding last_line then_entry
tell_entry-first-requires g c =
    next_room (word_served ++ then_number c.args.served) (then_entry word_hits c.args.hits ++ (then_entry word_misses c.args.misses ++ (then_entry word_best c.args.best ++ line_end))) (begin _ _ _ _ _ c.requires)

pub tell_entry-second-requires : goal.tell_entry-second-requires
unfolding last_line then_entry
tell_entry-second-requires g c =
    next_room (then_entry word_hits c.args.hits) (then_entry word_misses c.args.misses ++ (then_entry word_best c.args.best ++ line_end)) (more (word_served ++ then_number c.args.served) (then_entry word_hits c.args.hits ++ (then_entry word_misses c.args.misses ++ (then_entry word_best c.args.best ++ line_end))) (begin _ _ _ _ _ c.requires) c.tell_entry-first.ensures.offset c.tell_entry-first.ensures.text)

pub tell_entry-third-requires : goal.tell_entry-third-requires
unfolding last_line then_entry
tell_entry-third-requires g c =
    next_room (then_entry word_misses c.args.misses) (then_entry word_best c.args.best ++ line_end) (more (then_entry word_hits c.args.hits) (then_entry word_misses c.args.misses ++ (then_entry word_best c.args.best ++ line_end)) (more (word_served ++ then_number c.args.served) (then_entry word_hits c.args.hits ++ (then_entry word_misses c.args.misses ++ (then_entry word_best c.args.best ++ line_end))) (begin _ _ _ _ _ c.requires) c.tell_entry-first.ensures.offset c.tell_entry-first.ensures.text) c.tell_entry-second.ensures.offset c.tell_entry-second.ensures.text)

pub tell_entry-fourth-requires : goal.tell_entry-fourth-requires
unfolding last_line then_entry
tell_entry-fourth-requires g c =
    omega (arith, next_room (then_entry word_best c.args.best) line_end (more (then_entry word_misses c.args.misses) (then_entry word_best c.args.best ++ line_end) (more (then_entry word_hits c.args.hits) (then_entry word_misses c.args.misses ++ (then_entry word_best c.args.best ++ line_end)) (more (word_served ++ then_number c.args.served) (then_entry word_hits c.args.hits ++ (then_entry word_misses c.args.misses ++ (then_entry word_best c.args.best ++ line_end))) (begin _ _ _ _ _ c.requires) c.tell_entry-first.ensures.offset c.tell_entry-first.ensures.text) c.tell_entry-second.ensures.offset c.tell_entry-second.ensures.text) c.tell_entry-third.ensures.offset c.tell_entry-third.ensures.text))

pub word-requires : goal.word-requires
unfolding last_line then_entry
word-requires g c =
    last_room (more (then_entry word_best c.args.best) line_end (more (then_entry word_misses c.args.misses) (then_entry word_best c.args.best ++ line_end) (more (then_entry word_hits c.args.hits) (then_entry word_misses c.args.misses ++ (then_entry word_best c.args.best ++ line_end)) (more (word_served ++ then_number c.args.served) (then_entry word_hits c.args.hits ++ (then_entry word_misses c.args.misses ++ (then_entry word_best c.args.best ++ line_end))) (begin _ _ _ _ _ c.requires) c.tell_entry-first.ensures.offset c.tell_entry-first.ensures.text) c.tell_entry-second.ensures.offset c.tell_entry-second.ensures.text) c.tell_entry-third.ensures.offset c.tell_entry-third.ensures.text) (omega (arith, c.tell_entry-fourth.ensures.offset)) (told_from _ _ _ _ _ _ _ c.tell_entry-fourth.ensures.text (omega arith)))

pub returns : goal.returns
unfolding last_line then_entry
returns g c =
    let all = finish (more (then_entry word_best c.args.best) line_end (more (then_entry word_misses c.args.misses) (then_entry word_best c.args.best ++ line_end) (more (then_entry word_hits c.args.hits) (then_entry word_misses c.args.misses ++ (then_entry word_best c.args.best ++ line_end)) (more (word_served ++ then_number c.args.served) (then_entry word_hits c.args.hits ++ (then_entry word_misses c.args.misses ++ (then_entry word_best c.args.best ++ line_end))) (begin _ _ _ _ _ c.requires) c.tell_entry-first.ensures.offset c.tell_entry-first.ensures.text) c.tell_entry-second.ensures.offset c.tell_entry-second.ensures.text) c.tell_entry-third.ensures.offset c.tell_entry-third.ensures.text) (omega (arith, c.tell_entry-fourth.ensures.offset)) (told_from _ _ _ _ _ _ _ c.tell_entry-fourth.ensures.text (omega arith))) c.word.ensures.offset c.word.ensures.text in record { offset = omega (arith, all.0); text = all.1 }
