-- `text::tell_next` meets its contract: a space and a number make the whole. Assumes nothing.
use Rattle.text.specs.Text.{space, decimal, then_number}
use Rattle.text.specs.Telling.{begin, next_room, more, last_room, finish}
use Rattle.text.proofs.tell_next.Goals as goal

pub word-next-requires : goal.word-next-requires
unfolding then_number
word-next-requires g c = next_room space (decimal c.args.n) (begin _ _ _ _ _ c.requires)

pub number-requires : goal.number-requires
unfolding then_number
number-requires g c =
    last_room (more space (decimal c.args.n) (begin _ _ _ _ _ c.requires) c.word-next.ensures.offset c.word-next.ensures.text)

pub returns : goal.returns
unfolding then_number
returns g c =
    let last = more space (decimal c.args.n) (begin _ _ _ _ _ c.requires) c.word-next.ensures.offset c.word-next.ensures.text in
    let all = finish last c.number.ensures.offset c.number.ensures.text in record { offset = all.0; text = all.1 }
