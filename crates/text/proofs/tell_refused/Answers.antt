-- `text::tell_refused` meets its contract: what its two calls tell makes the whole. Assumes nothing.
use native.Mathlib.Omega.{arith}
use Rattle.std.specs.Prelude.{◌++◌}
use Rattle.text.specs.Text.{refused_line, then_number, word_refused, line_end}
use Rattle.text.specs.Telling.{begin, next_room, more, last_room, finish}
use Rattle.text.proofs.tell_refused.Goals as goal

pub tell_entry-first-requires : goal.tell_entry-first-requires
unfolding refused_line
tell_entry-first-requires g c = next_room (word_refused ++ then_number c.args.number) line_end (begin _ _ _ _ _ c.requires)

pub word-requires : goal.word-requires
unfolding refused_line
word-requires g c =
    last_room (more (word_refused ++ then_number c.args.number) line_end (begin _ _ _ _ _ c.requires) c.tell_entry-first.ensures.offset c.tell_entry-first.ensures.text)

pub returns : goal.returns
unfolding refused_line
returns g c =
    let last = more (word_refused ++ then_number c.args.number) line_end (begin _ _ _ _ _ c.requires) c.tell_entry-first.ensures.offset c.tell_entry-first.ensures.text in
    let all = finish last c.word.ensures.offset c.word.ensures.text in record { offset = omega (arith, all.0); text = all.1 }
