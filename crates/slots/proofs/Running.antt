-- The running sum and the running minimum over the layers: what a slot adds to its layer, and a layer to those before it.
-- Assumes nothing.
use Rattle.std.specs.Prelude.{if◌then◌else◌}
use mathlib.Core.List.{List}
use mathlib.Core.Logic.{⊎_elim}
use mathlib.Core.Path.{◌≡◌, refl, sym, ap, ◌∙◌}
use Prim.Native.Nat.{ℕ, zero, suc, ◌+◌, min, ◌≤◌, ◌<◌}
use native.Mathlib.Numerals.{add-one}
use native.Mathlib.Omega.{arith}
use lib.Dec.{eqb, leb}
use lib.ListN.{get_or, set, replicate}
use borrow.Author.Tests.{eq-eqb, ne_eqb, le-leb, lt-leb}
use Rattle.paging.specs.Sets.{count, listed}
use Rattle.paging.specs.Tests.{le_or_lt, same_or_not}
use Rattle.paging.specs.Tables.{listed_entry, listed_set}
use Rattle.ranking.specs.Key.{no_key}
use Rattle.slots.specs.Slots.{near_to, tally_of, least_key, layer_least, leasts_of}
use Rattle.slots.specs.Laws.{near_most, near_more}

-- up to layer 0 is of layer 0
first_layer : (x : ℕ) → eqb x 0 ≡ leb x 0
first_layer zero = refl
first_layer (suc x) = rw (ne_eqb (suc x) 0 (λ e. omega arith), lt-leb (suc x) 0 (omega arith))

-- ---- the sum

-- what the layers before j come to
unfoldable pub sum_before : List ℕ → ℕ → ℕ → ℕ
sum_before near k zero = 0
sum_before near k (suc j) = near_to near k j

module _ (near : List ℕ) (k : ℕ) where
  pub sum_none : 0 ≡ sum_before near k 0
  unfolding sum_before
  sum_none = refl

  pub sum_passed : (n j : ℕ) → n ≡ near_to near k j → n ≡ sum_before near k (j + 1)
  unfolding sum_before
  sum_passed n j e = rw (add-one j) e

  near_first : get_or (tally_of near k) 0 0 ≡ near_to near k 0
  unfolding near_to tally_of count
  near_first = listed_entry 256 (λ j. count (λ s. eqb (get_or near s 0) j) k) 0 0 (omega arith) ∙ sums k
    where
      sums : (k : ℕ) → count (λ s. eqb (get_or near s 0) 0) k ≡ count (λ s. leb (get_or near s 0) 0) k
      sums zero = refl
      sums (suc k) = rw (sums k, first_layer (get_or near k 0))

  sum_more : (j : ℕ) → j < 256 → sum_before near k j + get_or (tally_of near k) j 0 ≡ near_to near k j
  unfolding sum_before
  sum_more zero l = omega (arith, near_first)
  sum_more (suc j) l = near_more near k j l

  pub sum_here :
      (sums : List ℕ) (j n r : ℕ) → j < 256 → n ≡ sum_before near k j → sums ≡ tally_of near k → r ≡ get_or sums j 0 →
      n + r ≡ near_to near k j
  sum_here sums j n r l en es er = rw (en, er, es) (sum_more j l)

  pub sum_most :
      (sums : List ℕ) (j n r : ℕ) → j < 256 → n ≡ sum_before near k j → sums ≡ tally_of near k → r ≡ get_or sums j 0 →
      n + r ≤ k
  sum_most sums j n r l en es er = omega (arith, sum_here sums j n r l en es er, near_most near k j)

-- ---- the least key of a layer

pub leasts_none : (near keys : List ℕ) → replicate 256 no_key ≡ leasts_of near keys 0
unfolding leasts_of listed layer_least
leasts_none near keys = refl

-- one slot more may lower that of its layer
module _ (near keys least : List ℕ) (s l : ℕ) (at : l ≡ get_or near s 0) (small : l < 256) (e : least ≡ leasts_of near keys s) where
  abbrev of_layer : ℕ → ℕ → ℕ
  of_layer k i = layer_least near keys i k

  least_was : get_or least l 0 ≡ of_layer s l
  unfolding leasts_of
  least_was = rw e (listed_entry 256 (of_layer s) 0 l small)

  pub leasts_next : (r : ℕ) → r ≡ min (get_or least l 0) (get_or keys s 0) → set least l r ≡ leasts_of near keys (s + 1)
  unfolding leasts_of layer_least
  leasts_next r er = rw (e, add-one s) (listed_set 256 (of_layer s) (of_layer (suc s)) l r small here other)
    where
      here : r ≡ of_layer (suc s) l
      here = rw (eq-eqb (get_or near s 0) l (sym at)) (er ∙ ap (λ (m : ℕ). min m (get_or keys s 0)) least_was)

      most : (i k : ℕ) → of_layer k i ≤ no_key
      most i zero = omega arith
      most i (suc k) = omega (arith, most i k)

      other : (i : ℕ) → i < 256 → (i ≡ l → ⊥) → of_layer s i ≡ of_layer (suc s) i
      other i li ne = rw (ne_eqb (get_or near s 0) i (λ u. ne (sym u ∙ sym at))) (omega (arith, most i s))

-- ---- the least key up to a layer

-- the least key of the layers before j
unfoldable pub least_before : List ℕ → List ℕ → ℕ → ℕ → ℕ
least_before near keys k zero = no_key
least_before near keys k (suc j) = least_key near keys j k

-- a slot more, of a layer that stands before, here or after
module _ (a b c key : ℕ) (e : min a b ≡ c) (la : a ≤ no_key) (lb : b ≤ no_key) where
  slot_before : min (min a key) (min b no_key) ≡ min c key
  slot_before = omega arith

  slot_here : min (min a no_key) (min b key) ≡ min c key
  slot_here = omega arith

  slot_after : min (min a no_key) (min b no_key) ≡ min c no_key
  slot_after = omega arith

module _ (near keys : List ℕ) where
  key_most : (j k : ℕ) → least_key near keys j k ≤ no_key
  unfolding least_key
  key_most j zero = omega arith
  key_most j (suc k) = omega (arith, key_most j k)

  layer_most : (j k : ℕ) → layer_least near keys j k ≤ no_key
  unfolding layer_least
  layer_most j zero = omega arith
  layer_most j (suc k) = omega (arith, layer_most j k)

  layer_first : (k : ℕ) → layer_least near keys 0 k ≡ least_key near keys 0 k
  unfolding layer_least least_key
  layer_first zero = refl
  layer_first (suc k) = rw (layer_first k, first_layer (get_or near k 0))

  layer_more : (j k : ℕ) → min (least_key near keys j k) (layer_least near keys (suc j) k) ≡ least_key near keys (suc j) k
  unfolding layer_least least_key
  layer_more j zero = refl
  layer_more j (suc k) = go (layer_more j k)
    where
      x : ℕ
      x = get_or near k 0

      key : ℕ
      key = get_or keys k 0

      a : ℕ
      a = least_key near keys j k

      b : ℕ
      b = layer_least near keys (suc j) k

      c : ℕ
      c = least_key near keys (suc j) k

      Goal : Type 0
      Goal =
          min (min a (if leb x j then key else no_key)) (min b (if eqb x (suc j) then key else no_key))
          ≡ min c (if leb x (suc j) then key else no_key)

      go : min a b ≡ c → Goal
      go e = ⊎_elim before (λ p. ⊎_elim here (after p) (same_or_not x (suc j))) (le_or_lt x j)
        where
          before : x ≤ j → Goal
          before l =
              rw (le-leb x j l, le-leb x (suc j) (omega arith), ne_eqb x (suc j) (λ h. omega arith))
              (slot_before a b c key e (key_most j k) (layer_most (suc j) k))

          here : x ≡ suc j → Goal
          here h =
              rw (lt-leb x j (omega arith), le-leb x (suc j) (omega arith), eq-eqb x (suc j) h)
              (slot_here a b c key e (key_most j k) (layer_most (suc j) k))

          after : j < x → (x ≡ suc j → ⊥) → Goal
          after l ne =
              rw (lt-leb x j l, lt-leb x (suc j) (omega arith), ne_eqb x (suc j) ne)
              (slot_after a b c key e (key_most j k) (layer_most (suc j) k))

  least_more : (j k : ℕ) → min (least_before near keys k j) (layer_least near keys j k) ≡ least_key near keys j k
  unfolding least_before
  least_more zero k = omega (arith, layer_first k, layer_most 0 k)
  least_more (suc j) k = layer_more j k

  pub least_none : (k : ℕ) → no_key ≡ least_before near keys k 0
  unfolding least_before
  least_none k = refl

  pub least_passed : (k n j : ℕ) → n ≡ least_key near keys j k → n ≡ least_before near keys k (j + 1)
  unfolding least_before
  least_passed k n j e = rw (add-one j) e

  pub least_here :
      (least : List ℕ) (k j m r : ℕ) → j < 256 → m ≡ least_before near keys k j → least ≡ leasts_of near keys k →
      r ≡ min m (get_or least j 0) → r ≡ least_key near keys j k
  unfolding leasts_of
  least_here least k j m r l em el er = er ∙ (rw (em, el, entry) (least_more j k))
    where
      entry : get_or (listed 256 (λ l. layer_least near keys l k)) j 0 ≡ layer_least near keys j k
      entry = listed_entry 256 (λ l. layer_least near keys l k) 0 j l
