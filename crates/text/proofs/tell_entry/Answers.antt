-- `text::tell_entry` meets its contract: a word and what follows it make the whole. Assumes nothing.
use Rattle.text.specs.Text.{then_number}
use Rattle.text.specs.Telling.{begin, next_room, more, last_room, finish}
use Rattle.text.proofs.tell_entry.Goals as goal

pub word-next-requires : goal.word-next-requires
word-next-requires g c = next_room c.args.word.now (then_number c.args.n) (begin _ _ _ _ _ c.requires)

pub tell_next-requires : goal.tell_next-requires
tell_next-requires g c =
    last_room (more c.args.word.now (then_number c.args.n) (begin _ _ _ _ _ c.requires) c.word-next.ensures.offset c.word-next.ensures.text)

pub returns : goal.returns
returns g c =
    let last = more c.args.word.now (then_number c.args.n) (begin _ _ _ _ _ c.requires) c.word-next.ensures.offset c.word-next.ensures.text in
    let all = finish last c.tell_next.ensures.offset c.tell_next.ensures.text in record { offset = all.0; text = all.1 }
