-- One request of a page of a sound run, over the arrays that code keeps: the tables of layers and slots, and by slots the keys of
-- the pages in them. `o` is the run's ranking, `key q` the key of page q. Assumes nothing.
use Rattle.std.specs.Prelude.{Bool, ◌&&◌, List, ◌≡◌, ℕ, suc, ◌≤◌, ◌<◌, length, set, slice_index_or, if◌then◌else◌}
use Rattle.std.proofs.Math.Option
use Rattle.std.proofs.Math.Option.{Option, none, some}
use Rattle.paging.specs.Sets.{◌=?◌, ◌≤?◌, Same, first}
use Rattle.paging.specs.Layers.{Layered}
use Rattle.paging.specs.Selection.{chosen}
use Rattle.paging.specs.Victim.{victim}
use Rattle.ranking.specs.Key.{Keyed, page_of}
use Rattle.layers.specs.Asked.{layer_at, asked}
use Rattle.slots.specs.Slots.{no_page, seated, seat, near_of, keys_of, near_to, least_key}
use Rattle.refusals.specs.declared.Refusal.TheVariants.{NoVictim}
use Rattle.serve.specs.declared.Event.{Event}
use Rattle.serve.specs.declared.Event.TheVariants.{Hit, Miss, Refused}

-- What the code asks of the tables, whatever the ranking: sizes within limits, p a page, layers as a sound run has them, pages in
-- the slots.
pub record Ready (N k p : ℕ) (layer held : List ℕ) : Type 0 where
  pub pages : N ≤ 1024
  pub slots : (0 < k) × (k ≤ 64)
  pub page : p < N
  pub layered : Layered N k 0 (layer_at layer)
  pub holds : (s : ℕ) → s < k → slice_index_or held s no_page < N
  pub one : (s t : ℕ) → s < k → t < k → slice_index_or held s no_page ≡ slice_index_or held t no_page → s ≡ t
  pub long : (length layer ≡ 1024) × (length held ≡ 64)

-- The cached set is the selection by a ranking, and `keys` has by slots the keys that stand for it. `key'` has the keys after the
-- request: the requested page may be ranked anew, and its key is then `new`; the keys of the others stay.
pub record Ranked (N k p : ℕ) (o : ℕ → ℕ → Bool) (key key' : ℕ → ℕ) (layer held keys : List ℕ) (new : ℕ) : Type 0 where
  pub keyed : Keyed N o key
  pub cached : Same N (chosen N o (layer_at layer) k) (seated held k)
  pub keys_are : keys ≡ keys_of key held k
  pub others : (q : ℕ) → (q ≡ p → ⊥) → key' q ≡ key q
  pub own : key' p ≡ new

-- The slot of a cached page.
abbrev pub slot : List ℕ → ℕ → ℕ → ℕ
slot held k q = Option.get_or (seat held k q) 0

-- Victim of a request of p.
abbrev pub victim_in : ℕ → ℕ → ℕ → (ℕ → ℕ → Bool) → List ℕ → List ℕ → Option ℕ
victim_in N k p o layer held = victim N k o (layer_at layer) (seated held k) p

-- The event of a miss, and the slots after it: the new page takes the victim's slot. 17: a miss finds no j.
unfoldable pub missed : List ℕ → ℕ → Option ℕ → Event
missed held k none = Refused NoVictim
missed held k (some v) = Miss (slot held k v) v

unfoldable pub replaced : List ℕ → ℕ → ℕ → Option ℕ → List ℕ
replaced held k p none = held
replaced held k p (some v) = set held (slot held k v) p

-- The event of a request, and the slots after it.
unfoldable pub event_of : ℕ → ℕ → ℕ → (ℕ → ℕ → Bool) → List ℕ → List ℕ → Event
event_of N k p o layer held =
    if seated held k p then Hit (slot held k p)
    else missed held k (victim_in N k p o layer held)

unfoldable pub held_after : ℕ → ℕ → ℕ → (ℕ → ℕ → Bool) → List ℕ → List ℕ → List ℕ
held_after N k p o layer held =
    if seated held k p then held
    else replaced held k p (victim_in N k p o layer held)

-- The step's own way to the victim, over the slots: the first full layer from i on, or k for a page of L_0, and the page of the
-- least key up to it.
unfoldable pub least_page : List ℕ → List ℕ → ℕ → Option ℕ → Option ℕ
least_page near keys k none = none
least_page near keys k (some j) = some (page_of (least_key near keys j k))

unfoldable pub search_to : List ℕ → ℕ → ℕ → Option ℕ
search_to near k i = if i =? 0 then some k else first (suc k) (λ j. i ≤? j && near_to near k j =? j)

-- What the step leaves: the event, the tables after it, and by slots the layers and keys of the pages in them.
pub record Stepped (N k p : ℕ) (o : ℕ → ℕ → Bool) (key' : ℕ → ℕ) (layer held : List ℕ) (event : Event) (layer' held' near' keys' : List ℕ) : Type 0 where
  pub event_is : event ≡ event_of N k p o layer held
  pub layer_is : layer' ≡ asked N k p layer
  pub held_is : held' ≡ held_after N k p o layer held
  pub near_is : near' ≡ near_of layer' held' k
  pub keys_is : keys' ≡ keys_of key' held' k
  -- the layer table that was lent had its full length
  pub long : length layer ≡ 1024

-- The step's promise: that, for every ranking that the tables may have before the request and every one that the requested page may
-- give it after.
abbrev pub Steps : (N k p : ℕ) (layer held keys : List ℕ) (new : ℕ) (event : Event) (layer' held' near' keys' : List ℕ) → Type 0
Steps N k p layer held keys new event layer' held' near' keys' =
    (o : ℕ → ℕ → Bool) (key key' : ℕ → ℕ) →
    Ranked N k p o key key' layer held keys new →
    Stepped N k p o key' layer held event layer' held' near' keys'
