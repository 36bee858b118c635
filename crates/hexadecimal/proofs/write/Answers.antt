-- `hexadecimal::write` meets its contract, by its tests in their order. Assumes nothing.
use native.Mathlib.Omega.{arith}
use Rattle.hexadecimal.specs.Laws.{no_room, with_room, digits_length}
use Rattle.hexadecimal.proofs.write.Goals as goal
use Rattle.hexadecimal.proofs.write.Goals.{then-out-at-via-then-out-at, then-out-at-via-else-out-at+then-out-at-2}

pub returns-then-out-at : goal.returns-then-out-at
returns-then-out-at c =
    no_room (rw digits_length (elim c.then-out-at.branch [
      | then-out-at-via-then-out-at w ↦ omega arith
      | then-out-at-via-else-out-at+then-out-at-2 w ↦ omega arith
    ]))

pub returns : goal.returns
returns c = with_room (rw digits_length (omega arith)) (rw digits_length (omega arith)) c.write_pairs.ensures
