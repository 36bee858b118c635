-- What the tests of a start list say, as facts, and how long lists of values and tables are. Assumes nothing.
use Rattle.std.specs.Prelude.{Bool, true, List, ◌≡◌, refl, ℕ, ◌<◌, length, nat_eq, nat_lt, slice_index_or}
use Rattle.std.proofs.Common.{ltb-true, lt-ltb, eqb-true, eq-eqb}
use Rattle.paging.specs.Sets.{◌⇒◌, each}
use Rattle.paging.specs.Layers.{StartList}
use Rattle.paging.specs.Tests.{implies_true, implies_in}
use Rattle.paging.specs.Words.{each_true, each_in}
use Rattle.begin.specs.Begin.{below, different}

-- every entry is below N
pub below_true : (N : ℕ) (ps : List ℕ) → below N ps ≡ true → (t : ℕ) → t < length ps → slice_index_or ps t 0 < N
unfolding below
below_true N ps e t l = ltb-true (slice_index_or ps t 0) N (each_true (length ps) (λ i. nat_lt (slice_index_or ps i 0) N) e t l)

pub below_in : (N : ℕ) (ps : List ℕ) → ((t : ℕ) → t < length ps → slice_index_or ps t 0 < N) → below N ps ≡ true
unfolding below
below_in N ps h = each_in (length ps) (λ i. nat_lt (slice_index_or ps i 0) N) (λ t l. lt-ltb (slice_index_or ps t 0) N (h t l))

-- equal entries stand at one place
abbrev once : List ℕ → ℕ → ℕ → Bool
once ps t u = nat_eq (slice_index_or ps t 0) (slice_index_or ps u 0) ⇒ nat_eq t u

pub different_true :
    (ps : List ℕ) → different ps ≡ true → (t u : ℕ) → t < length ps → u < length ps → slice_index_or ps t 0 ≡ slice_index_or ps u 0 → t ≡ u
unfolding different
different_true ps e t u lt lu same =
    let row = each_true (length ps) (λ i. each (length ps) (λ j. once ps i j)) e t lt in
    let here = each_true (length ps) (λ j. once ps t j) row u lu in
    eqb-true t u (implies_true (nat_eq (slice_index_or ps t 0) (slice_index_or ps u 0)) (nat_eq t u) here (eq-eqb (slice_index_or ps t 0) (slice_index_or ps u 0) same))

pub different_in :
    (ps : List ℕ) →
    ((t u : ℕ) → t < length ps → u < length ps → slice_index_or ps t 0 ≡ slice_index_or ps u 0 → t ≡ u) →
    different ps ≡ true
unfolding different
different_in ps h = each_in (length ps) (λ i. each (length ps) (λ j. once ps i j)) (λ t lt. row t lt)
  where
    here : (t u : ℕ) → t < length ps → u < length ps → once ps t u ≡ true
    here t u lt lu =
        implies_in
        (nat_eq (slice_index_or ps t 0) (slice_index_or ps u 0))
        (nat_eq t u)
        (λ e. eq-eqb t u (h t u lt lu (eqb-true (slice_index_or ps t 0) (slice_index_or ps u 0) e)))

    row : (t : ℕ) → t < length ps → each (length ps) (λ j. once ps t j) ≡ true
    row t lt = each_in (length ps) (λ j. once ps t j) (λ u lu. here t u lt lu)

-- a list that passes both tests is a start list of the theory
pub start_list : (N : ℕ) (ps : List ℕ) → below N ps ≡ true → different ps ≡ true → StartList N (length ps) ps
start_list N ps b d = record { entries = refl; below = below_true N ps b; once = different_true ps d }
