-- The loop's invariant in `replay::seat_keys`: the table is that of the slots passed, and a read has told that priorities are 16
-- bits wide. Assumes nothing.
use mathlib.Core.Path.{◌≡◌}
use Prim.Native.Nat.{◌<◌}
use Rattle.ranking.specs.Key.{Narrow, key_at, page_keys}
use Rattle.slots.specs.Slots.{keys_of}
use Rattle.replay.proofs.seat_keys.Given as goal

abbrev pub invariant-loop-s : goal.invariant-loop-s
invariant-loop-s l =
    (l.keys ≡ keys_of (key_at (page_keys l.priority)) l.held l.s) × (0 < l.s → Narrow l.priority)
