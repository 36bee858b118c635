-- Document 01, 'Layers and selection': where each page stands at a start, and where after a request.
-- `L q` is the number of the layer of page q, so that L_j is the set of all q with L q = j. Assumes nothing.
use Rattle.std.specs.Prelude.{List, ◌≡◌, ℕ, suc, ◌-◌, ◌≤◌, ◌<◌, length, slice_index_or, if◌then◌else◌}
use Rattle.std.proofs.Math.Option.{Option, none, some}
use Rattle.paging.specs.Sets.{◌=?◌, ◌<?◌, Pages, count, first}

-- The layer j.
abbrev pub in_layer : (ℕ → ℕ) → ℕ → Pages
in_layer L j = λ q. L q =? j

-- The start list holds k different pages p1 to pk.
pub record StartList (N k : ℕ) (ps : List ℕ) : Type 0 where
  pub entries : length ps ≡ k
  pub below : (t : ℕ) → t < k → slice_index_or ps t 0 < N
  pub once : (t u : ℕ) → t < k → u < k → slice_index_or ps t 0 ≡ slice_index_or ps u 0 → t ≡ u

-- L_i = {p_i}; L_0 holds every other page.
abbrev pub place : Option ℕ → ℕ
place (some i) = suc i
place none = 0

unfoldable pub start_layer : List ℕ → ℕ → ℕ
start_layer ps q = place (first (length ps) (λ i. slice_index_or ps i 0 =? q))

-- Request p in L_0: p leaves L_0; then L_k joins L_(k-1); L_k = {p}. For k = 1 the old L_1 joins L_0.
unfoldable pub asked_new : ℕ → ℕ → (ℕ → ℕ) → ℕ → ℕ
asked_new k p L q =
    if q =? p then k else
    if L q =? k then k - 1 else
    L q

-- Request p in L_i, i > 0: L_i without p joins L_(i-1); each L_j for i ≤ j < k becomes the old L_(j+1); L_k = {p}.
unfoldable pub asked_known : ℕ → ℕ → ℕ → (ℕ → ℕ) → ℕ → ℕ
asked_known k i p L q =
    if q =? p then k else
    if L q =? i then i - 1 else
    if i <? L q then L q - 1 else
    L q

-- The layers after a request of p.
unfoldable pub next : ℕ → ℕ → (ℕ → ℕ) → ℕ → ℕ
next k p L = if L p =? 0 then asked_new k p L else asked_known k (L p) p L

-- What holds of the layers at all times, while f slots are still free: none are in document 01's runs, so there f is 0.
pub record Layered (N k f : ℕ) (L : ℕ → ℕ) : Type 0 where
  pub few : f ≤ k
  -- Each page below N is in a layer 0 to k;
  pub bounded : (q : ℕ) → q < N → L q ≤ k
  -- every layer 1 to k holds a page (with free slots: every layer after the first f)
  pub filled : (j : ℕ) → f < j → j ≤ k → (q : ℕ) × (q < N) × (L q ≡ j)
  -- and layer k exactly one (with free slots: if it holds any).
  pub last : f < k → count (in_layer L k) N ≡ 1
  -- While slots are free, the first f of the layers 1 to k hold none, and no layer 1 to k holds two.
  pub gap : (q : ℕ) → q < N → 0 < L q → f < L q
  pub alone : 0 < f → (q u : ℕ) → q < N → u < N → 0 < L q → L q ≡ L u → q ≡ u
