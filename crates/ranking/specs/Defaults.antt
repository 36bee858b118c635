-- Document 01, 'Numbers': the default priorities. Assumes nothing.
use Rattle.std.specs.Prelude.{List, ℕ, ◌+◌, ◌*◌, ◌%◌}
use Rattle.paging.specs.Sets.{listed}

-- A start may name a default priority list: the first N entries of a fixed table of 1,024 numbers whose entry i is
-- (389·i + 71) mod 1024.
unfoldable pub default_priority : ℕ → ℕ
default_priority i = (389 * i + 71) % 1024

unfoldable pub default_priorities : ℕ → List ℕ
default_priorities N = listed N default_priority
