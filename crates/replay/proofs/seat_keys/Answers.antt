-- `replay::seat_keys` meets its contract, by the invariant of its loop. Assumes nothing.
use mathlib.Core.Path.{refl, ap, ◌∙◌}
use Prim.Native.Nat.{◌<◌}
use native.Mathlib.Omega.{arith}
use lib.ListN.{get_or}
use borrow.Author.Rules.{rules}
use Rattle.paging.specs.Sets.{listed, table}
use Rattle.slots.specs.Slots.{keys_of}
use Rattle.replay.specs.Laws.{seat_page, seat_next}
use Rattle.replay.proofs.seat_keys.Goals as goal
use Rattle.replay.proofs.seat_keys.Goals.{After-shared_slice_known-1}

pub loop-s-init : goal.loop-s-init
unfolding keys_of table listed
loop-s-init c = (refl, λ l. absurd (omega arith))

-- the slot of this turn holds a page
page : (c : After-shared_slice_known-1) → get_or c.args.held.now c.loop-s.s 0 < 1024
page c =
    seat_page c.args.priority.now c.args.held.now c.loop-s.s (search rules) (c.requires.1 c.loop-s.s (search rules))

pub overflow_cast-page : goal.overflow_cast-page
overflow_cast-page c = omega (arith, page (goal.at.overflow_cast-page c).After-shared_slice_known-1)

pub offset_bounds-numbers-page : goal.offset_bounds-numbers-page
offset_bounds-numbers-page c = omega (arith, page (goal.at.offset_bounds-numbers-page c).After-shared_slice_known-1)

pub bounds-numbers-page : goal.bounds-numbers-page
bounds-numbers-page c = omega (arith, page (goal.at.bounds-numbers-page c).After-shared_slice_known-1)

pub key-requires : goal.key-requires
key-requires c = page (goal.at.key-requires c).After-shared_slice_known-1

pub loop-s-preserved : goal.loop-s-preserved
loop-s-preserved c = (
  seat_next c.args.priority.now c.args.held.now c.loop-s.s (search rules) (c.requires.1 c.loop-s.s (search rules)) _ _ (search rules) c.key.ensures c.loop-s.invariant.0,
  λ l q. omega (arith, c.type_inv.numbers q),
)

pub returns : goal.returns
returns c = record { table = c.loop-s.invariant.0 ∙ ap (keys_of _ _) (omega arith); narrow = λ l. c.loop-s.invariant.1 (omega arith) }
