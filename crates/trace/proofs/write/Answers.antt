-- `trace::write` meets its contract, by its tests in their order. Assumes nothing.
use mathlib.Core.Path.{ap}
use borrow.Author.Rules.{rules}
use Rattle.refusals.specs.declared.Refusal.TheVariants.{Requests, Room}
use Rattle.refusals.specs.Numbers.{number_in}
use Rattle.refusals.specs.Laws.{number_some}
use Rattle.trace.proofs.Reading.{unrefused}
use Rattle.trace.proofs.Writing.{write_refused, write_told, refuse_start, refuse_requests, refuse_room, refuse_none, write_fits}
use Rattle.trace.proofs.write.Goals as goal

pub returns-in-Some : goal.returns-in-Some
returns-in-Some c =
    let all = write_refused _ _ _ _ _ _ _ (refuse_start _ _ _ _ _ _ _ c.start.ensures _ (ap number_in c.in-Some.is) (number_some _)) (number_some _) _ c.unwritten.ensures in
    record { answer = all.0; buffer = all.1 }

pub returns-then-requests-gt30000 : goal.returns-then-requests-gt30000
returns-then-requests-gt30000 c =
    let all = write_refused _ _ _ _ _ _ _ (refuse_requests _ _ _ _ _ _ _ c.start.ensures (unrefused _ c.in_default.not-Some) (search rules)) (number_some Requests) _ c.unwritten-then-requests-gt30000.ensures in
    record { answer = all.0; buffer = all.1 }

pub returns-then-out-length : goal.returns-then-out-length
returns-then-out-length c =
    let all = write_refused _ _ _ _ _ _ _ (refuse_room _ _ _ _ _ _ _ c.start.ensures (unrefused _ c.in_default.not-Some) (search rules) (search rules)) (number_some Room) _ c.unwritten-then-out-length.ensures in
    record { answer = all.0; buffer = all.1 }

pub write_sections-requires : goal.write_sections-requires
write_sections-requires c =
    write_fits _ _ _ _ _ _ _ c.start.ensures (unrefused _ c.in_default.not-Some) (search rules) (search rules)

pub returns : goal.returns
returns c =
    let all = write_told _ _ _ _ _ _ (refuse_none _ _ _ _ _ _ _ c.start.ensures (unrefused _ c.in_default.not-Some) (search rules) (search rules))
    _ c.write_sections.ensures in
    record { answer = all.0; buffer = all.1 }
