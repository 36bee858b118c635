-- `replay::play` meets its contract, by the invariant of its loop. Assumes nothing.
use mathlib.Core.Path.{ap, ◌∙◌}
use native.Mathlib.Omega.{arith}
use borrow.Author.Rules.{rules}
use Rattle.slots.specs.Laws.{near_entries}
use Rattle.run.specs.declared.Run.{Run}
use Rattle.run.proofs.Serving.{slots_hold, slots_byte}
use Rattle.replay.specs.Laws.{Long, replaying_first, replaying_next, replaying_last, part_asked}
use Rattle.text.specs.Telling.{begin, told_from}
use Rattle.replay.specs.Laws.{line_fits, telling_next, telling_last}
use Rattle.replay.proofs.play.Goals as goal
use Rattle.replay.proofs.play.Goals.{Start}

pub slice_bounds-words-count : goal.slice_bounds-words-count
slice_bounds-words-count g c = omega (arith, c.min-from.ensures)

pub slice_bounds-words-start : goal.slice_bounds-words-start
slice_bounds-words-start g c = omega (arith, c.min-from.ensures)

pub by_slot-near-requires : goal.by_slot-near-requires
by_slot-near-requires g c = (omega arith, (omega arith, slots_hold _ c.requires.0))

pub seat_keys-keys-requires : goal.seat_keys-keys-requires
seat_keys-keys-requires g c = slots_hold _ c.requires.0

-- the tables of a run that is given have their types' lengths
start_long : (g : _) (s : Start g) → Long s.args.start
start_long g s = record { layers = search rules; slots = search rules }

pub loop-i-init : goal.loop-i-init
loop-i-init g c =
    let part = part_asked c.args.file.now c.args.offset c.min-from.result c.args.requests c.min-from.ensures in (
      replaying_first _ _ _ _ _ _ c.requires.0 (start_long g (goal.at.loop-i-init g c).Start) (record { by_near = c.by_slot-near.ensures ∙ near_entries _ _ _; by_key = c.seat_keys-keys.ensures.table; narrow = c.seat_keys-keys.ensures.narrow c.requires.0.slots.0 }),
      begin _ _ _ _ _ (rw part c.requires.1),
      slots_byte _ c.requires.0,
      part,
    )

pub ask-turn-requires : goal.ask-turn-requires
ask-turn-requires g c =
    rw c.loop-i.invariant.2 (record { sound = (c.loop-i.invariant.0.sound_is, c.loop-i.invariant.0.long_is.layers, c.loop-i.invariant.0.long_is.slots); nears = c.loop-i.invariant.0.nears })

pub tell_line-next-requires : goal.tell_line-next-requires
tell_line-next-requires g c =
    let fits = line_fits _ _ _ _ _ _ _ _ _ _ _ _ c.loop-i.invariant.1 _ _ (search rules) c.request_at-page.ensures (rw c.loop-i.invariant.2 at c.ask-turn.ensures.answer) in
    rw (c.from.ensures, c.from-in-loop-i.ensures) (omega (arith, fits))

pub loop-i-preserved : goal.loop-i-preserved
loop-i-preserved g c =
    let is = rw c.loop-i.invariant.2 at c.ask-turn.ensures.answer in (
      replaying_next _ _ _ _ _ _ _ _ c.loop-i.invariant.0 _ _ _ _ (search rules) c.request_at-page.ensures is
          (rw c.loop-i.invariant.2 at c.ask-turn.ensures.nears),
      telling_next _ _ _ _ _ _ _ _ _ _ _ _ c.loop-i.invariant.1 _ _ (search rules) c.request_at-page.ensures is _ _ (omega (arith, rw (c.from.ensures, c.from-in-loop-i.ensures) at c.tell_line-next.ensures.offset)) (told_from _ _ _ _ _ _ _ (rw (c.from.ensures, c.from-in-loop-i.ensures) at c.tell_line-next.ensures.text) (omega arith)),
      c.loop-i.invariant.2,
      c.loop-i.invariant.3,
    )

pub returns : goal.returns
returns g c =
    let last = replaying_last _ _ _ _ _ _ _ _ c.loop-i.invariant.0 (search rules) in
    let all = telling_last _ _ _ _ _ _ _ _ _ _ _ _ c.loop-i.invariant.1 (omega (arith, c.loop-i.invariant.0.reached)) in
    record { counts = rw c.loop-i.invariant.3 at (ap (λ (r : Run). r.counts) last); offset = (rw c.loop-i.invariant.3 at all).0; text = (rw c.loop-i.invariant.3 at all).1 }
