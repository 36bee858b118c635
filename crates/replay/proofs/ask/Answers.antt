-- `replay::ask` meets its contract: it refuses as a request does, and the step is what a request comes to. Assumes nothing.
use mathlib.Core.Path.{sym, ap, ◌∙◌}
use Prim.Native.Nat.{◌<◌}
use native.Mathlib.Omega.{arith}
use lib.ListN.{length, get_or}
use Rattle.refusals.specs.Numbers.{told}
use Rattle.refusals.specs.Laws.{told_fine}
use Rattle.slots.specs.Laws.{keys_length}
use Rattle.replay.specs.Laws.{refused_turn, turn_page, turn_ready, turn_slots, turn_counts, turn_is, turn_seated}
use Rattle.replay.proofs.ask.Goals as goal
use Rattle.replay.proofs.ask.Goals.{After-new_page-new}

pub returns-in-Err : goal.returns-in-Err
returns-in-Err c =
    record { answer = refused_turn _ _ _ _ _ _ c.requires.sound.0 _ _ (sym (ap told c.in-Err.is) ∙ c.refusal-tested.ensures); nears = c.requires.nears }

pub bounds-layer-p : goal.bounds-layer-p
bounds-layer-p c = omega (arith, turn_page _ _ _ _ _ _ c.requires.sound.0 _ _ c.refusal-tested.ensures (told_fine _ c.in_default.not-Err))

page : (c : After-new_page-new) → c.args.page < 1024
page c = turn_page _ _ _ _ _ _ c.requires.sound.0 _ _ c.refusal-tested.ensures (told_fine _ c.in_default.not-Err)

pub offset_bounds-priority-p : goal.offset_bounds-priority-p
offset_bounds-priority-p c = omega (arith, page (goal.at.offset_bounds-priority-p c).After-new_page-new)

pub bounds-priority-p : goal.bounds-priority-p
bounds-priority-p c = omega (arith, page (goal.at.bounds-priority-p c).After-new_page-new)

pub key-key-requires : goal.key-key-requires
key-key-requires c = page (goal.at.key-key-requires c).After-new_page-new

pub step-event-requires : goal.step-event-requires
step-event-requires c =
    let small = turn_slots _ _ _ _ _ _ c.requires.sound.0 _ _ c.refusal-tested.ensures (told_fine _ c.in_default.not-Err) in record { ready = turn_ready _ _ _ _ _ _ c.requires.sound.0 _ _ c.refusal-tested.ensures (told_fine _ c.in_default.not-Err) c.requires.sound.1 c.requires.sound.2; nears = (c.requires.nears.by_near, ap length c.requires.nears.by_key ∙ keys_length _ _ _ small) }

pub counted-requires : goal.counted-requires
counted-requires c =
    turn_counts _ _ _ _ _ _ c.requires.sound.0 _ _ c.refusal-tested.ensures (told_fine _ c.in_default.not-Err) _ (get_or c.args.layer.now c.args.page 0) c.new_page-new.ensures

pub returns : goal.returns
returns c =
    record { answer = turn_is _ _ _ _ _ _ c.requires.sound.0 _ _ c.refusal-tested.ensures (told_fine _ c.in_default.not-Err) _ _ _ _ _ _ _ _ _ c.requires.nears c.key-key.ensures c.step-event.ensures c.new_page-new.ensures _ c.counted.ensures; nears = turn_seated _ _ _ _ _ _ c.requires.sound.0 _ _ c.refusal-tested.ensures (told_fine _ c.in_default.not-Err) 0 _ _ _ _ _ _ _ _ c.requires.nears c.key-key.ensures c.step-event.ensures }
