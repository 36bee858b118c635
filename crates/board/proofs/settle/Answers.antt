-- `board::settle` meets its contract: beside a refusal nothing is written, else the next run's image. Assumes nothing.
use mathlib.Core.Path.{ap, ◌∙◌}
use Rattle.words.specs.Words.{put}
use Rattle.run.proofs.Storing.{parts_fit, parts_image}
use Rattle.board.specs.Board.{Small}
use Rattle.board.proofs.Answers.{untouched, written, write_fits, unrefused}
use Rattle.board.proofs.settle.Goals as goal

pub pack-requires : goal.pack-requires
unfolding Small
pack-requires c = rw c.in-Refused.is tt

pub returns-in-Refused : goal.returns-in-Refused
returns-in-Refused c =
    record { answer = c.pack.ensures; bytes = untouched _ _ _ _ c.in-Refused.is }

pub write-requires : goal.write-requires
write-requires c =
    let run = write_fits _ _ (unrefused _ _ _ c.requires c.in_default.not-Refused) in
    let all = parts_fit c.args.served.run c.parts.ensures.sizes c.parts.ensures.tables run in record { limits = all.0; narrow = all.1 }

pub pack-requires-2 : goal.pack-requires-2
pack-requires-2 c = (unrefused _ _ _ c.requires c.in_default.not-Refused).small

pub returns : goal.returns
returns c =
    let p = c.parts.ensures in
    let image = c.write.ensures ∙ ap (put _ 0) (parts_image _ p.sizes p.tables p.numbers) in
    record { answer = c.pack-2.ensures; bytes = image ∙ written _ _ _ c.in_default.not-Refused }
