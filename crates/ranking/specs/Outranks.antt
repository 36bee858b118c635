-- Document 01, 'Numbers': which of two pages outranks the other. `P q` is the priority of page q. Assumes nothing.
use Rattle.std.specs.Prelude.{Bool, ◌&&◌, ◌||◌, ℕ}
use Rattle.paging.specs.Sets.{◌=?◌, ◌<?◌}

-- Page a outranks page b if its priority is greater, or if priorities are equal and a is the lower number.
unfoldable pub above : ℕ → ℕ → ℕ → ℕ → Bool
above priority_a a priority_b b = priority_b <? priority_a || (priority_a =? priority_b && a <? b)

abbrev pub outranks : (ℕ → ℕ) → ℕ → ℕ → Bool
outranks P a b = above (P a) a (P b) b
