-- `certify::certificate` meets its contract: over the tables that it makes, `none_late` and `has_room` test the words' own clauses.
-- Assumes nothing.
use mathlib.Core.Path.{◌∙◌}
use Rattle.slots.specs.Laws.{near_entries, keys_entries}
use Rattle.certify.specs.ByLayer.{Tabled}
use Rattle.certify.proofs.Together.{Made, certificate_not, certificate_is}
use Rattle.certify.proofs.certificate.Goals as goal
use Rattle.certify.proofs.certificate.Goals.{After-bars-limits}

-- the tables of the slots by layers are made
tabled :
    (c : After-bars-limits) →
    (Tabled c.by_slot-near.result c.by_slot-seat_keys.result c.args.slots c.counts-counts.result c.lows-lows.result)
tabled c = record { by_count = c.counts-counts.ensures; by_low = c.lows-lows.ensures }

-- and those by slots and pages
made :
    (c : After-bars-limits) →
    (Made
    c.args.pages
    c.args.slots
    c.args.layer.now
    c.args.keys.now
    c.args.held.now
    c.by_slot-near.result
    c.by_slot-seat_keys.result
    c.bars-limits.result
    c.args.marks.now)
made c =
    record {
      by_near = c.by_slot-near.ensures ∙ near_entries _ _ _;
      by_key = c.by_slot-seat_keys.ensures ∙ keys_entries _ _ _;
      by_bar = c.bars-limits.ensures _ _ (tabled c);
      by_mark = c.requires.limits.2;
      bounded = c.requires.bounded;
    }

pub returns-then-none_late : goal.returns-then-none_late
returns-then-none_late c =
    let at = (goal.at.returns-then-none_late c).After-bars-limits in
    certificate_is _ _ _ _ _ _ _ _ _ (made at) _ _ _ _ (tabled at) c.none_late.ensures c.if-none_late.true c.has_room.ensures

pub returns-else-none_late : goal.returns-else-none_late
returns-else-none_late c =
    c.if-none_late.false
    ∙ certificate_not _ _ _ _ _ _ _ _ _ (made (goal.at.returns-else-none_late c).After-bars-limits) _ c.none_late.ensures c.if-none_late.false
