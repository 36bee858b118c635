-- Document 01, 'Numbers': the limits of N and k. Assumes nothing.
use Rattle.std.specs.Prelude.{Bool, ◌&&◌, ℕ}
use Rattle.paging.specs.Sets.{◌≤?◌, unless◌give◌else◌}

-- Pages N: 1 to 1024. Slots k: 1 to 64 and at most N.
abbrev pub most_pages : ℕ
most_pages = 1024

abbrev pub most_slots : ℕ
most_slots = 64

-- N within its limits; k within its own.
unfoldable pub pages_fit : ℕ → Bool
pages_fit N = 1 ≤? N && N ≤? most_pages

unfoldable pub slots_fit : ℕ → ℕ → Bool
slots_fit N k = 1 ≤? k && k ≤? most_slots && k ≤? N

-- 2: N outside 1 to 1024. 3: k outside 1 to 64, or above N. 0: neither.
unfoldable pub limits_refusal : ℕ → ℕ → ℕ
limits_refusal N k =
    unless pages_fit N give 2 else
    unless slots_fit N k give 3 else
    0
