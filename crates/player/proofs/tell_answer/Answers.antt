-- `player::tell_answer` meets its contract, file refused or played. Assumes nothing.
use mathlib.Core.Path.{sym, ap, ◌∙◌}
use Rattle.refusals.specs.Numbers.{number_in}
use Rattle.refusals.specs.Laws.{number_some, number_none}
use Rattle.trace.specs.Reading.{asked}
use Rattle.text.specs.Text.{first_line}
use Rattle.text.specs.Telling.{next_room, more, last_room, finish}
use Rattle.player.specs.Answer.{lines}
use Rattle.player.specs.Laws.{refused_bytes, sound_start, begin_answer}
use Rattle.player.proofs.tell_answer.Goals as goal

pub tell_refused-requires : goal.tell_refused-requires
tell_refused-requires g c =
    let is = ap number_in c.in-Some.is in
    rw (c.from.ensures, c.number.ensures, ← is, refused_bytes _ _ c.read-traced.ensures (λ z. number_some _ (sym is ∙ z))) c.requires

pub returns-in-Some : goal.returns-in-Some
returns-in-Some g c =
    let is = ap number_in c.in-Some.is in
    rw (c.from.ensures, c.number.ensures, ← is, refused_bytes _ _ c.read-traced.ensures (λ z. number_some _ (sym is ∙ z))) at c.tell_refused.ensures

pub tell_first_line-next-requires : goal.tell_first_line-next-requires
tell_first_line-next-requires g c =
    let traced = c.read-traced.result in
    next_room (first_line traced.run.pages traced.run.slots traced.requests) (lines traced.run (asked c.args.file.now traced.offset traced.requests)) (begin_answer _ _ c.read-traced.ensures (number_none _ c.in_default.not-Some) _ _ _ c.requires)

pub tell_lines-requires : goal.tell_lines-requires
tell_lines-requires g c =
    let traced = c.read-traced.result in
    (sound_start _ _ c.read-traced.ensures (number_none _ c.in_default.not-Some), last_room (more (first_line traced.run.pages traced.run.slots traced.requests) (lines traced.run (asked c.args.file.now traced.offset traced.requests)) (begin_answer _ _ c.read-traced.ensures (number_none _ c.in_default.not-Some) _ _ _ c.requires) c.tell_first_line-next.ensures.offset c.tell_first_line-next.ensures.text))

pub returns : goal.returns
returns g c =
    let traced = c.read-traced.result in
    let last = more (first_line traced.run.pages traced.run.slots traced.requests) (lines traced.run (asked c.args.file.now traced.offset traced.requests)) (begin_answer _ _ c.read-traced.ensures (number_none _ c.in_default.not-Some) _ _ _ c.requires) c.tell_first_line-next.ensures.offset c.tell_first_line-next.ensures.text in
    let all = finish last c.tell_lines.ensures.offset c.tell_lines.ensures.text in record { offset = all.0; text = all.1 }
