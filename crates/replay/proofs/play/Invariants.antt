-- The loop's invariant in `replay::play`: what is left of the requests makes of the run in hand what all make of the start, and
-- told behind what is told already makes the whole; the arrays and counts are the run in hand. Assumes nothing.
use mathlib.Core.Path.{◌≡◌}
use lib.ListN.{drop}
use Rattle.trace.specs.Reading.{asked}
use Rattle.text.specs.Telling.{Telling}
use Rattle.replay.specs.Replay.{state}
use Rattle.replay.specs.Told.{event_lines}
use Rattle.replay.specs.Laws.{Replaying}
use Rattle.replay.proofs.play.Given as goal

abbrev pub invariant-loop-i : goal.invariant-loop-i
invariant-loop-i g l =
    Replaying (state l.pages l.slots l.initial.counts l.initial.layer l.priority l.initial.held) (asked l.words 0 l.requests) l.requests (state l.pages l.slots l.counts l.layer l.priority l.held) l.near l.keys l.i
    × Telling g.T.Telling.told g.T.Telling.written l.initial.out l.at (event_lines (state l.pages l.slots l.initial.counts l.initial.layer l.priority l.initial.held) (asked l.words 0 l.requests)) l.out l.next (event_lines (state l.pages l.slots l.counts l.layer l.priority l.held) (drop l.i (asked l.words 0 l.requests)))
    × (l.k ≡ l.slots)
    × (asked l.words 0 l.requests ≡ asked l.file l.offset l.requests)
