-- The loop's invariant in `fields::start_of`: what is left of the line has the word at what is left of its number. Assumes
-- nothing.
use Prim.Native.Nat.{◌-◌, ◌≤◌}
use mathlib.Core.Path.{◌≡◌}
use lib.ListN.{length, drop}
use Rattle.fields.specs.Fields.{word_of}
use Rattle.fields.proofs.start_of.Given as goal

abbrev pub invariant-loop : goal.invariant-loop
invariant-loop l = (l.from ≤ length l.line) × (word_of (l.index - l.counter) (drop l.from l.line) ≡ word_of l.index l.line)
