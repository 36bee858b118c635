-- One number for a page and its priority, its key, that orders the pages as the ranking does; and what code below a run may rely on
-- where it is given keys: the laws of `Keyed`, and nothing of priorities. Assumes nothing.
use Rattle.std.specs.Prelude.{Bool, true, List, ◌↔◌, ◌≡◌, ℕ, ◌+◌, ◌*◌, ◌-◌, ◌%◌, ◌≤◌, ◌<◌, slice_index_or}
use Rattle.paging.specs.Sets.{◌<?◌, table}
use Rattle.paging.specs.Ranking.{Ranking}

unfoldable pub key_of : ℕ → ℕ → ℕ
key_of priority page = priority * 1024 + (1023 - page)

-- The page of a key, and the number that no key reaches.
unfoldable pub page_of : ℕ → ℕ
page_of key = 1023 - key % 1024

abbrev pub no_key : ℕ
no_key = 4294967295

-- The key of each page by a table of priorities.
unfoldable pub page_keys : List ℕ → List ℕ
page_keys priority = table 1024 1024 0 (λ q. key_of (slice_index_or priority q 0) q)

-- The key of page q in a table of keys.
abbrev pub key_at : List ℕ → ℕ → ℕ
key_at keys q = slice_index_or keys q 0

-- Each priority is a number of 16 bits, as it is in the code.
abbrev pub Narrow : List ℕ → Type 0
Narrow priority = (q : ℕ) → slice_index_or priority q 0 ≤ 65535

-- Keys of the pages below N that stand for a ranking of them.
pub record Keyed (N : ℕ) (o : ℕ → ℕ → Bool) (key : ℕ → ℕ) : Type 0 where
  pub ranking : Ranking N o
  -- of two pages the one with the greater key outranks the other;
  pub order : (a b : ℕ) → a < N → b < N → (key b < key a) ↔ (o a b ≡ true)
  -- the page comes back from its key;
  pub back : (q : ℕ) → q < N → page_of (key q) ≡ q
  -- no key reaches the number that stands for none.
  pub small : (q : ℕ) → q < N → key q < no_key

-- The ranking that keys give.
abbrev pub by_key : (ℕ → ℕ) → ℕ → ℕ → Bool
by_key key a b = key b <? key a
