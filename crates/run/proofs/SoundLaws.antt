-- The record `Sound` and the test `sound` agree, by the laws of their parts: limits, counts, ranks and tables. Assumes nothing.
use Rattle.std.specs.Prelude.{Bool, true, ◌&&◌, ◌↔◌, ◌≡◌, drop}
use Rattle.std.specs.Bool.{beq}
use Rattle.std.proofs.Math.Path.{sym}
use Rattle.std.proofs.Common.{arith}
use Rattle.paging.specs.Sets.{Pages, each, only}
use Rattle.paging.specs.Layers.{Layered}
use Rattle.paging.specs.Tests.{and_in, and_left, and_right, beq_true, beq_in}
use Rattle.paging.specs.Words.{each_true, each_in, only_true, only_in}
use Rattle.ranking.specs.Ranks.{ranks_clear}
use Rattle.slots.specs.Slots.{no_page}
use Rattle.begin.specs.Limits.{pages_fit, slots_fit}
use Rattle.begin.specs.LimitLaws.{Limits, fit_pages, fit_slots, pages_within, slots_within}
use Rattle.certify.specs.Test.{layers_fit, ends_clear}
use Rattle.certify.specs.Tables.{seats_fit, tables_sound}
use Rattle.certify.specs.Laws.{sound_parts, parts_sound, sound_clauses, clauses_sound}
use Rattle.counts.specs.Counts.{counts_fit}
use Rattle.counts.specs.Laws.{Fit, fit_iff}
use Rattle.run.specs.declared.Run.{Run}
use Rattle.run.specs.Numbers.{layer, ranks}
use Rattle.run.specs.Cached.{cached, selection}
use Rattle.run.specs.Sound.{Sound, sound}

module _ (r : Run) where
  -- the groups of the test, in its order
  abbrev limits : Bool
  limits = pages_fit r.pages && slots_fit r.pages r.slots

  abbrev layers : Bool
  layers = layers_fit r.pages r.slots r.layer

  abbrev same : Pages
  same q = beq (cached r q) (selection r q)

  abbrev chosen : Bool
  chosen = each r.pages same

  abbrev seats : Bool
  seats = seats_fit r.pages r.slots r.held

  abbrev counts : Bool
  counts = counts_fit r.counts

  abbrev no_layer : Bool
  no_layer = only 0 (drop r.pages r.layer)

  abbrev no_rank : Bool
  no_rank = ranks_clear r.pages r.ranks

  abbrev no_seat : Bool
  no_seat = only no_page (drop r.slots r.held)

  abbrev tables : Bool
  tables = tables_sound r.pages r.slots (ranks r) r.layer r.held

  -- The parts of the test as the code makes them.
  pub record Parts : Type 0 where
    pub limits_fit : Limits r.pages r.slots
    pub counts_are : counts_fit r.counts ≡ true
    pub ranks_end : ranks_clear r.pages r.ranks ≡ true
    pub tables_are : tables_sound r.pages r.slots (ranks r) r.layer r.held ≡ true

  pub test_parts : sound r ≡ true → Parts
  unfolding sound layers_fit seats_fit counts_fit ends_clear
  test_parts e =
      let ends = and_right (limits && layers && chosen && seats && counts) (no_layer && no_rank && no_seat) e in
      let to_counts = and_left (limits && layers && chosen && seats && counts) (no_layer && no_rank && no_seat) e in
      let to_seats = and_left (limits && layers && chosen && seats) counts to_counts in
      let to_chosen = and_left (limits && layers && chosen) seats to_seats in
      let to_layers = and_left (limits && layers) chosen to_chosen in
      let fit = and_left limits layers to_layers in
      let p = fit_pages r.pages (and_left (pages_fit r.pages) (slots_fit r.pages r.slots) fit) in
      let s = fit_slots r.pages r.slots (and_right (pages_fit r.pages) (slots_fit r.pages r.slots) fit) in
      record {
        limits_fit = (p.0, p.1, s.0, s.1, s.2);
        counts_are = and_right (limits && layers && chosen && seats) counts to_counts;
        ranks_end = and_right no_layer no_rank (and_left (no_layer && no_rank) no_seat ends);
        tables_are =
            parts_sound r.pages r.slots (ranks r) r.layer r.held
            (record {
              layers = and_right limits layers to_layers;
              seats = and_right (limits && layers && chosen) seats to_seats;
              selected = λ q l. sym (beq_true (cached r q) (selection r q) (each_true r.pages same (and_right (limits && layers) chosen to_chosen) q l));
              ends = and_in no_layer no_seat (and_left no_layer no_rank (and_left (no_layer && no_rank) no_seat ends)) (and_right (no_layer && no_rank) no_seat ends);
            });
      }

  pub parts_test : Parts → sound r ≡ true
  unfolding sound layers_fit seats_fit counts_fit ends_clear
  parts_test w =
      let t = sound_parts r.pages r.slots (ranks r) r.layer r.held w.tables_are in
      let l = w.limits_fit in
      let fit = and_in (pages_fit r.pages) (slots_fit r.pages r.slots) (pages_within r.pages l.0 l.1) (slots_within r.pages r.slots l.2 l.3 l.4) in
      let is = each_in r.pages same (λ q lq. beq_in (cached r q) (selection r q) (sym (t.selected q lq))) in
      let to_chosen = and_in (limits && layers) chosen (and_in limits layers fit t.layers) is in
      let to_seats = and_in (limits && layers && chosen) seats to_chosen t.seats in
      let to_counts = and_in (limits && layers && chosen && seats) counts to_seats w.counts_are in
      let ends = and_in (no_layer && no_rank) no_seat (and_in no_layer no_rank (and_left no_layer no_seat t.ends) w.ranks_end) (and_right no_layer no_seat t.ends) in
      and_in (limits && layers && chosen && seats && counts) (no_layer && no_rank && no_seat) to_counts ends

  facts : Parts → Sound r
  facts w =
      let l = w.limits_fit in
      let f = (fit_iff r.counts).0 w.counts_are in
      let c = sound_clauses r.pages r.slots (ranks r) r.layer r.held w.tables_are in
      record {
        pages = (l.0, l.1);
        slots = (l.2, l.3, l.4);
        layers = c.layered.bounded;
        filled = λ j a b. c.layered.filled j a b;
        last = c.layered.last l.2;
        chosen = λ q lq. sym (c.selected q lq);
        holds = c.below;
        one = c.differ;
        counts = f.sum;
        served = f.few;
        best = f.least;
        no_layer = c.no_layer;
        no_priority = only_true 0 r.pages r.ranks.priority w.ranks_end;
        empty = c.no_seat;
      }

  -- what a sound run is to the theory
  pub run_layered : Sound r → Layered r.pages r.slots 0 (layer r)
  run_layered w =
      record {
        few = omega arith;
        bounded = w.layers;
        filled = λ j a b. w.filled j a b;
        last = λ _. w.last;
        gap = λ q l h. h;
        alone = λ z. absurd (omega arith);
      }

  -- and its counts
  pub run_counts : Sound r → Fit r.counts
  run_counts w = record { sum = w.counts; few = w.served; least = w.best }

  test : Sound r → Parts
  test w =
      record {
        limits_fit = (w.pages.0, w.pages.1, w.slots.0, w.slots.1, w.slots.2);
        counts_are = (fit_iff r.counts).1 (run_counts w);
        ranks_end = only_in 0 r.pages r.ranks.priority w.no_priority;
        tables_are =
            clauses_sound r.pages r.slots (ranks r) r.layer r.held w.slots.0
            (record {
              layered = run_layered w;
              below = w.holds;
              differ = w.one;
              selected = λ q l. sym (w.chosen q l);
              no_layer = w.no_layer;
              no_seat = w.empty;
            });
      }

  -- the test says what the record says
  pub sound_iff : (sound r ≡ true) ↔ Sound r
  sound_iff = (λ e. facts (test_parts e), λ w. parts_test (test w))
