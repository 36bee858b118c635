-- The slots: entry s of a list h is the page in slot s. By slots also the layer and the key of the page in each. Assumes nothing.
use Rattle.std.specs.Prelude.{Some, None, List, ℕ, zero, suc, min, slice_index_or, if◌then◌else◌}
use Rattle.std.specs.Prelude as rust
use Rattle.std.proofs.Math.Option.{Option, none, some}
use Rattle.paging.specs.Sets.{◌=?◌, ◌≤?◌, Pages, count, any, first, listed, table}
use Rattle.ranking.specs.Key.{no_key}

-- What stands in a slot that holds no page.
abbrev pub no_page : ℕ
no_page = 65535

-- A page is cached if a slot below k holds it;
unfoldable pub seated : List ℕ → ℕ → Pages
seated h k q = any k (λ s. slice_index_or h s no_page =? q)

-- its slot is the first that does.
unfoldable pub seat : List ℕ → ℕ → ℕ → Option ℕ
seat h k q = first k (λ s. slice_index_or h s no_page =? q)

-- A number that a search found, or that there is none, as code answers it.
abbrev pub found : Option ℕ → rust.Option ℕ
found (some s) = Some s
found none = None

-- The entry that a table of the pages has for the page in each of the first k slots; `absent` for a slot that holds no page.
unfoldable pub entries_of : {A : Type 0} → List A → List ℕ → ℕ → A → List A
entries_of entries h k absent = table 64 k absent (λ s. slice_index_or entries (slice_index_or h s no_page) absent)

-- The layer of the page in each of the first k slots, and its key. `key q` is the key of page q.
unfoldable pub near_of : List ℕ → List ℕ → ℕ → List ℕ
near_of layer h k = table 64 k 0 (λ s. slice_index_or layer (slice_index_or h s no_page) 0)

unfoldable pub keys_of : (ℕ → ℕ) → List ℕ → ℕ → List ℕ
keys_of key h k = table 64 k 0 (λ s. key (slice_index_or h s no_page))

-- How many of the first k slots hold a page of a layer up to j.
unfoldable pub near_to : List ℕ → ℕ → ℕ → ℕ
near_to near k j = count (λ s. slice_index_or near s 0 ≤? j) k

-- Entry j, of every layer that a byte can name: how many of the first k slots hold a page of layer j.
unfoldable pub tally_of : List ℕ → ℕ → List ℕ
tally_of near k = listed 256 (λ j. count (λ s. slice_index_or near s 0 =? j) k)

-- The least key of the first n slots that hold a page of a layer up to j; the number that no key reaches, if there is none.
unfoldable pub least_key : List ℕ → List ℕ → ℕ → ℕ → ℕ
least_key near keys j zero = no_key
least_key near keys j (suc n) = min (least_key near keys j n) (if slice_index_or near n 0 ≤? j then slice_index_or keys n 0 else no_key)

-- The same of layer l alone,
unfoldable pub layer_least : List ℕ → List ℕ → ℕ → ℕ → ℕ
layer_least near keys l zero = no_key
layer_least near keys l (suc n) = min (layer_least near keys l n) (if slice_index_or near n 0 =? l then slice_index_or keys n 0 else no_key)

-- and of every layer that a byte can name.
unfoldable pub leasts_of : List ℕ → List ℕ → ℕ → List ℕ
leasts_of near keys k = listed 256 (λ l. layer_least near keys l k)
