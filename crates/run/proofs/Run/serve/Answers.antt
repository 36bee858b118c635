-- `Run::serve` meets its contract: a sound run is ready for the step, whose answer is the rule's. Assumes nothing.
use mathlib.Core.Path.{◌≡◌, refl, ◌∙◌}
use native.Mathlib.Omega.{arith}
use lib.ListN.{length, get_or}
use borrow.Author.Rules.{rules}
use Rattle.slots.specs.Laws.{keys_length, near_entries, keys_entries}
use Rattle.counts.specs.Laws.{counts_room}
use Rattle.run.specs.Request.{next_run}
use Rattle.run.proofs.SoundLaws.{run_counts}
use Rattle.run.proofs.Serving.{slots_hold, slots_byte, page_short, run_ready, step_taken}
use Rattle.run.proofs.Run.serve.Goals as goal

pub by_slot-near-requires : goal.by_slot-near-requires
by_slot-near-requires c = (search rules, (search rules, slots_hold _ c.requires.known.0))

pub by_slot-seat_keys-requires : goal.by_slot-seat_keys-requires
by_slot-seat_keys-requires c = (search rules, (search rules, slots_hold _ c.requires.known.0))

pub bounds-layer-page : goal.bounds-layer-page
bounds-layer-page c = omega (arith, c.requires.known.1, c.requires.known.0.pages)

pub offset_bounds-keys-page : goal.offset_bounds-keys-page
offset_bounds-keys-page c = omega (arith, c.requires.known.1, c.requires.known.0.pages)

pub bounds-keys-page : goal.bounds-keys-page
bounds-keys-page c = omega (arith, c.requires.known.1, c.requires.known.0.pages)

pub step-event-requires : goal.step-event-requires
step-event-requires c =
    let long : length c.args.self.layer ≡ 1024 = search rules in
    let seats : length c.args.self.held ≡ 64 = search rules in
    rw (slots_byte _ c.requires.known.0, page_short _ _ c.requires.known.0 c.requires.known.1) (record {
      ready = run_ready _ _ c.requires.known.0 c.requires.known.1 long seats;
      nears = (c.by_slot-near.ensures ∙ near_entries _ _ _, rw (c.by_slot-seat_keys.ensures ∙ keys_entries _ _ _) (keys_length _ _ _ c.requires.known.0.slots.1));
    })

pub counted-turn-requires : goal.counted-turn-requires
counted-turn-requires c =
    counts_room _ (run_counts _ c.requires.known.0) c.requires.known.2 _ (get_or c.args.self.layer c.args.page 0) c.new_page-new.ensures

pub returns : goal.returns
unfolding next_run
returns c =
    step_taken _ _ _ _ _ _ _ _ _ _ _ _ c.requires.known.0 c.requires.known.1 c.requires.keyed (c.by_slot-seat_keys.ensures ∙ keys_entries _ _ _) refl c.new_page-new.ensures
    (rw (slots_byte _ c.requires.known.0, page_short _ _ c.requires.known.0 c.requires.known.1) at c.step-event.ensures)
    c.counted-turn.ensures
