-- Document 01, 'A sound run': once as a record of facts, once as a test, clause by clause in the same order. Assumes nothing.
use Rattle.std.specs.Prelude.{Bool, ◌&&◌, ◌≡◌, ℕ, suc, ◌+◌, ◌≤◌, ◌<◌, drop}
use Rattle.std.specs.Bool.{beq}
use Rattle.run.specs.declared.Run.{Run}
use Rattle.paging.specs.Sets.{◌=?◌, ◌<?◌, ◌≤?◌, ◌⇒◌, count, each, any, only}
use Rattle.paging.specs.Layers.{in_layer}
use Rattle.ranking.specs.Ranks.{ranks_clear}
use Rattle.slots.specs.Slots.{no_page}
use Rattle.begin.specs.Limits.{most_pages, most_slots, pages_fit, slots_fit}
use Rattle.counts.specs.Counts.{most_served}
use Rattle.run.specs.Numbers.{layer, priority, in_slot}
use Rattle.run.specs.Cached.{cached, selection}

pub record Sound (r : Run) : Type 0 where
  -- N and k within limits;
  pub pages : (1 ≤ r.pages) × (r.pages ≤ most_pages)
  pub slots : (1 ≤ r.slots) × (r.slots ≤ most_slots) × (r.slots ≤ r.pages)
  -- each page below N in a layer 0 to k;
  pub layers : (q : ℕ) → q < r.pages → layer r q ≤ r.slots
  -- every layer 1 to k holds a page
  pub filled : (j : ℕ) → 1 ≤ j → j ≤ r.slots → (q : ℕ) × (q < r.pages) × (layer r q ≡ j)
  -- and layer k exactly one;
  pub last : count (in_layer (layer r) r.slots) r.pages ≡ 1
  -- the cached set equals the selection;
  pub chosen : (q : ℕ) → q < r.pages → cached r q ≡ selection r q
  -- each slot holds one cached page
  pub holds : (s : ℕ) → s < r.slots → in_slot r s < r.pages
  -- and each cached page one slot;
  pub one : (s t : ℕ) → s < r.slots → t < r.slots → in_slot r s ≡ in_slot r t → s ≡ t
  -- hits + misses = served ≤ 1,000,000;
  pub counts : r.counts.hits + r.counts.misses ≡ r.counts.served
  pub served : r.counts.served ≤ most_served
  -- best ≤ misses.
  pub best : r.counts.best ≤ r.counts.misses
  -- Entries at N and above: layer 0, priority 0, no slot (no page at N and above is in one, by `holds`).
  pub no_layer : (q : ℕ) → r.pages ≤ q → layer r q ≡ 0
  pub no_priority : (q : ℕ) → r.pages ≤ q → priority r q ≡ 0
  -- Slots at k and above hold no page.
  pub empty : (s : ℕ) → r.slots ≤ s → in_slot r s ≡ no_page

-- The same as a test. The clauses stand in groups whose laws the crates below have.
unfoldable pub sound : Run → Bool
sound r =
    let N = r.pages in
    let k = r.slots in
    let c = r.counts in
    -- N and k within limits;
    (pages_fit N && slots_fit N k)
    -- each page below N in a layer 0 to k; every layer 1 to k holds a page and layer k exactly one;
    && (each N (λ q. layer r q ≤? k) && each k (λ j. any N (in_layer (layer r) (suc j))) && count (in_layer (layer r) k) N =? 1)
    -- the cached set equals the selection;
    && each N (λ q. beq (cached r q) (selection r q))
    -- each slot holds one cached page and each cached page one slot;
    && (each k (λ s. in_slot r s <? N) && each k (λ s. each k (λ t. in_slot r s =? in_slot r t ⇒ s =? t)))
    -- hits + misses = served ≤ 1,000,000; best ≤ misses.
    && (c.hits + c.misses =? c.served && c.served ≤? most_served && c.best ≤? c.misses)
    -- Entries at N and above: layer 0, priority 0. Slots at k and above hold no page.
    && (only 0 (drop N r.layer) && ranks_clear N r.ranks && only no_page (drop k r.held))
