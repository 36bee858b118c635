-- `player::tell_lines` meets its contract: the lines as they are played, and the last line behind them. Assumes nothing.
use Rattle.text.specs.Telling.{last_room, finish}
use Rattle.player.specs.Laws.{events_room, last_left}
use Rattle.player.proofs.tell_lines.Goals as goal

pub play-played-requires : goal.play-played-requires
play-played-requires g c = (c.requires.0, events_room _ _ _ _ _ _ _ _ c.requires.1)

pub tell_last_line-requires : goal.tell_last_line-requires
tell_last_line-requires g c =
    rw (c.from.ensures, c.from-2.ensures, c.from-3.ensures, c.from-4.ensures) (last_room (last_left _ _ _ _ _ _ _ _ c.requires.1 c.play-played.result _ c.play-played.ensures.counts c.play-played.ensures.offset c.play-played.ensures.text))

pub returns : goal.returns
returns g c =
    let last = last_left _ _ _ _ _ _ _ _ c.requires.1 c.play-played.result _ c.play-played.ensures.counts c.play-played.ensures.offset c.play-played.ensures.text in
    let all = finish last (rw (c.from.ensures, c.from-2.ensures, c.from-3.ensures, c.from-4.ensures) at c.tell_last_line.ensures.offset) (rw (c.from.ensures, c.from-2.ensures, c.from-3.ensures, c.from-4.ensures) at c.tell_last_line.ensures.text) in record { offset = all.0; text = all.1 }
