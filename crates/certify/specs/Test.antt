-- The soundness test's way to see that the cached set is the selection: it does not build the selection, it looks for the
-- certificate. These are the test's words; `certified` in Certified says that they come to document 01's. Assumes nothing.
use Rattle.std.specs.Prelude.{Bool, ◌&&◌, ◌||◌, List, ℕ, suc, drop, slice_index_or}
use Rattle.std.proofs.Math.Option
use Rattle.paging.specs.Sets.{◌=?◌, ◌<?◌, ◌≤?◌, Pages, count, each, any, first, only}
use Rattle.paging.specs.Layers.{in_layer}
use Rattle.slots.specs.Slots.{no_page, seated, near_of, keys_of, near_to, least_key}

-- For each j, the slots hold at most j pages of layers up to j.
unfoldable pub room : List ℕ → ℕ → Bool
room near k = each (suc k) (λ j. near_to near k j ≤? j)

-- The first layer from i on up to which the slots hold just as many pages; k where there is none.
unfoldable pub far : List ℕ → ℕ → ℕ → ℕ
far near k i = Option.get_or (first (suc k) (λ j. i ≤? j && near_to near k j =? j)) k

-- The least key up to there: a page of layer i that is in no slot has a lower one.
unfoldable pub bar_key : List ℕ → List ℕ → ℕ → ℕ → ℕ
bar_key near keys k i = least_key near keys (far near k i) k

unfoldable pub none_late : ℕ → ℕ → List ℕ → (ℕ → ℕ) → Pages → List ℕ → List ℕ → Bool
none_late N k layer key M near keys = each N (λ q. M q || slice_index_or layer q 0 =? 0 || key q <? bar_key near keys k (slice_index_or layer q 0))

-- The certificate, of the tables by slots. `key q` is the key of page q.
unfoldable pub certificate : ℕ → ℕ → List ℕ → (ℕ → ℕ) → List ℕ → Bool
certificate N k layer key held =
    none_late N k layer key (seated held k) (near_of layer held k) (keys_of key held k)
    && room (near_of layer held k) k

-- The test's other parts: document 01's clauses on the layers, and on the entries that no page and no slot has.
unfoldable pub layers_fit : ℕ → ℕ → List ℕ → Bool
layers_fit N k layer =
    each N (λ q. slice_index_or layer q 0 ≤? k)
    && each k (λ j. any N (in_layer (λ q. slice_index_or layer q 0) (suc j)))
    && count (in_layer (λ q. slice_index_or layer q 0) k) N =? 1

unfoldable pub ends_clear : ℕ → ℕ → List ℕ → List ℕ → Bool
ends_clear N k layer held = only 0 (drop N layer) && only no_page (drop k held)
