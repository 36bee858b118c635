-- The loop's invariant in `text::write_number`: with the digits that are left put in, the slice is as it is to be. Assumes
-- nothing.
use mathlib.Core.Path.{◌≡◌}
use Prim.Native.Nat.{◌-◌}
use lib.ListN.{length}
use Rattle.words.specs.Words.{put}
use Rattle.text.specs.Text.{decimal}
use Rattle.text.proofs.Steps.{last_digits}
use Rattle.text.proofs.write_number.Given as goal

abbrev pub invariant-loop-i : goal.invariant-loop-i
invariant-loop-i l =
    (length l.out ≡ length l.initial.out) × (put l.out l.at (last_digits (l.i - l.at) l.left) ≡ put l.initial.out l.at (decimal l.n))
