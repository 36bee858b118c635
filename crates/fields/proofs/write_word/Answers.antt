-- `fields::write_word` meets its contract, by its tests in their order. Assumes nothing.
use mathlib.Core.Path.{refl}
use native.Mathlib.Omega.{arith}
use Rattle.hexadecimal.specs.Laws.{no_room, with_room}
use Rattle.fields.proofs.Steps.{copied}
use Rattle.fields.proofs.write_word.Goals as goal
use Rattle.fields.proofs.write_word.Goals.{then-out-at-via-then-out-at, then-out-at-via-else-out-at+then-out-at-2}

pub returns-then-out-at : goal.returns-then-out-at
returns-then-out-at c =
    no_room (elim c.then-out-at.branch [
      | then-out-at-via-then-out-at w ↦ omega arith
      | then-out-at-via-else-out-at+then-out-at-2 w ↦ omega arith
    ])

pub returns : goal.returns
returns c = with_room (omega arith) refl (copied _ _ _ _ c.copy_from_slice.ensures.after)
