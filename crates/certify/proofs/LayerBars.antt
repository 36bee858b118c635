-- The bars from the last layer down: the first full layer from each on, and what one turn of the loop adds. Assumes nothing.
use mathlib.Core.Bool.{Bool, true, ◌&&◌}
use mathlib.Core.List.{List}
use mathlib.Core.Logic.{◌⊎◌, ⊎_elim}
use mathlib.Core.Option
use mathlib.Core.Option.{Option, none, some}
use mathlib.Core.Path.{Path, ◌≡◌, refl, sym, ap, ◌∙◌}
use Prim.Native.Nat.{ℕ, suc, ◌+◌, ◌≤◌, ◌<◌}
use native.Mathlib.Omega.{arith}
use lib.Dec.{eqb, leb}
use lib.ListN.{length, get_or, set, replicate, length-set, length-replicate}
use lib.Seq.{get_or-set_same, get_or-set_other, ext_get_or}
use borrow.Author.Tests.{eqb-true, eq-eqb, leb-true, le-leb}
use Rattle.paging.specs.Sets.{first, table}
use Rattle.paging.specs.Tests.{isnt, same_test, and_in, and_left, and_right, same_or_not, le_or_lt}
use Rattle.paging.specs.Words.{first_some, first_is, first_same}
use Rattle.paging.specs.Tables.{table_at, table_past, table_length}
use Rattle.slots.specs.Slots.{near_to, least_key}
use Rattle.certify.specs.Test.{far, bar_key}
use Rattle.certify.specs.ByLayer.{Tabled}
use Rattle.certify.proofs.Marks.{replicate_at}

-- ---- the first full layer

module _ (near : List ℕ) (k : ℕ) where
  abbrev full : ℕ → ℕ → Bool
  full i j = leb i j && eqb (near_to near k j) j

  full_true : (i j : ℕ) → full i j ≡ true → (i ≤ j) × (near_to near k j ≡ j)
  full_true i j e = (
    leb-true i j (and_left (leb i j) (eqb (near_to near k j) j) e),
    eqb-true (near_to near k j) j (and_right (leb i j) (eqb (near_to near k j) j) e),
  )

  full_in : (i j : ℕ) → i ≤ j → near_to near k j ≡ j → full i j ≡ true
  full_in i j l e = and_in (leb i j) (eqb (near_to near k j) j) (le-leb i j l) (eq-eqb (near_to near k j) j e)

  -- past the last layer there is none
  far_past : (i : ℕ) → k < i → far near k i ≡ k
  unfolding far
  far_past i l = go (first (suc k) (full i)) refl
    where
      go : (x : Option ℕ) → Path (Option ℕ) (first (suc k) (full i)) x → Option.get_or (first (suc k) (full i)) k ≡ k
      go none e = ap (λ (x : Option ℕ). Option.get_or x k) e
      go (some j) e =
          let w = first_some (suc k) (full i) j e in
          absurd (omega (arith, w.below, (full_true i j w.member).0))

  -- a full layer is the first from itself on,
  far_full : (i : ℕ) → i ≤ k → near_to near k i ≡ i → far near k i ≡ i
  unfolding far
  far_full i l e =
      ap
      (λ (x : Option ℕ). Option.get_or x k)
      (first_is
      (suc k)
      (full i)
      i
      (record {
        below = omega arith;
        member = full_in i i (omega arith) e;
        none_before = λ j lj. isnt (full i j) (λ t. omega (arith, (full_true i j t).0));
      }))

  -- another one has the next layer's
  far_next : (i : ℕ) → (near_to near k i ≡ i → ⊥) → far near k i ≡ far near k (suc i)
  unfolding far
  far_next i ne =
      ap
      (λ (x : Option ℕ). Option.get_or x k)
      (first_same (suc k) (full i) (full (suc i)) (λ j. same_test (full i j) (full (suc i) j) (there j) (back j)))
    where
      there : (j : ℕ) → full i j ≡ true → full (suc i) j ≡ true
      there j t =
          let (l, e) = full_true i j t in
          ⊎_elim (λ h. full_in (suc i) j h e) (λ h. absurd (ne (let s : i ≡ j = omega arith in rw s e))) (le_or_lt (suc i) j)

      back : (j : ℕ) → full (suc i) j ≡ true → full i j ≡ true
      back j t = let (l, e) = full_true (suc i) j t in full_in i j (omega arith) e

-- ---- the tables of the slots by layers

module _ (near keys : List ℕ) (k : ℕ) (counts lows : List ℕ) (w : Tabled near keys k counts lows) (i : ℕ) (l : i ≤ k) where
  pub count_at : get_or counts i 0 ≡ near_to near k i
  count_at = rw w.by_count (table_at 65 (suc k) 0 (near_to near k) i (omega arith))

  pub low_at : get_or lows i 0 ≡ least_key near keys i k
  low_at = rw w.by_low (table_at 65 (suc k) 0 (λ j. least_key near keys j k) i (omega arith))

-- ---- the bars of the layers from j on, `bar` among them; past k there are none

pub record Bars (near keys : List ℕ) (k : ℕ) (bars : List ℕ) (bar j : ℕ) : Type 0 where
  pub size : length bars ≡ 65
  pub next : bar ≡ bar_key near keys k j
  pub made : (i : ℕ) → j ≤ i → i ≤ k → get_or bars i 0 ≡ bar_key near keys k i
  pub past : (i : ℕ) → k < i → get_or bars i 0 ≡ 0

-- what a turn's `if` leaves: one thing where the test held, another where it failed
abbrev pub Turn : Type 0 → Type 0 → Type 0 → Type 0 → Type 0
Turn held then failed else = (held × then) ⊎ (failed × else)

module _ (near keys : List ℕ) (k : ℕ) where
  pub bars_none : (bar : ℕ) → bar ≡ least_key near keys k k → Bars near keys k (replicate 65 0) bar (k + 1)
  unfolding bar_key
  bars_none bar e =
      record {
        size = length-replicate {A = ℕ} 65 0;
        next = e ∙ ap (λ (j : ℕ). least_key near keys j k) (sym (far_past near k (k + 1) (omega arith)));
        made = λ i a b. absurd (omega arith);
        past = λ i l. replicate_at 65 0 i;
      }

  -- one layer down: the layer's own bar where it is full, else the next layer's
  bar_here :
      (i j bar old n : ℕ) →
      suc i ≡ j →
      j ≤ k + 1 →
      n ≡ near_to near k i →
      old ≡ bar_key near keys k j →
      Turn (n ≡ i) (bar ≡ least_key near keys i k) (n ≡ i → ⊥) (bar ≡ old) →
      bar ≡ bar_key near keys k i
  unfolding bar_key
  bar_here i j bar old n s l en eo came =
      ⊎_elim
      (λ w. w.1 ∙ ap (λ (f : ℕ). least_key near keys f k) (sym (far_full near k i (omega arith) (sym en ∙ w.0))))
      (λ w. w.1 ∙ (eo ∙ ap (λ (f : ℕ). least_key near keys f k) (same w.0)))
      came
    where
      same : (n ≡ i → ⊥) → far near k j ≡ far near k i
      same ne = ap (far near k) (sym s) ∙ sym (far_next near k i (λ e. ne (en ∙ e)))

  pub bars_more :
      (bars : List ℕ) (i j bar old n : ℕ) →
      suc i ≡ j →
      j ≤ k + 1 →
      k ≤ 64 →
      n ≡ near_to near k i →
      Bars near keys k bars old j →
      Turn (n ≡ i) (bar ≡ least_key near keys i k) (n ≡ i → ⊥) (bar ≡ old) →
      Bars near keys k (set bars i bar) bar i
  bars_more bars i j bar old n s l fits en w came =
      record {
        size = length-set bars i bar ∙ w.size;
        next = e;
        made = λ t a b. ⊎_elim (λ h. here t h) (λ h. above t h a b) (same_or_not t i);
        past = λ t a. get_or-set_other bars i t bar 0 (λ h. omega arith) ∙ w.past t a;
      }
    where
      e : bar ≡ bar_key near keys k i
      e = bar_here i j bar old n s l en w.next came

      here : (t : ℕ) → t ≡ i → get_or (set bars i bar) t 0 ≡ bar_key near keys k t
      here t h = rw h (get_or-set_same bars i bar 0 (omega (arith, w.size)) ∙ e)

      above : (t : ℕ) → (t ≡ i → ⊥) → i ≤ t → t ≤ k → get_or (set bars i bar) t 0 ≡ bar_key near keys k t
      above t h a b = get_or-set_other bars i t bar 0 h ∙ w.made t (omega arith) b

  pub bars_all :
      (bars : List ℕ) (bar j : ℕ) →
      k ≤ 64 →
      j ≤ 0 →
      Bars near keys k bars bar j →
      bars ≡ table 65 (suc k) 0 (bar_key near keys k)
  bars_all bars bar j fits z w =
      ext_get_or
      0
      bars
      (table 65 (suc k) 0 (bar_key near keys k))
      (w.size ∙ sym (table_length 65 (suc k) 0 (bar_key near keys k) (omega arith)))
      (λ i l. ⊎_elim (λ h. layer i h) (λ h. past i h) (le_or_lt i k))
    where
      layer : (i : ℕ) → i ≤ k → get_or bars i 0 ≡ get_or (table 65 (suc k) 0 (bar_key near keys k)) i 0
      layer i h = w.made i (omega arith) h ∙ sym (table_at 65 (suc k) 0 (bar_key near keys k) i (omega arith))

      past : (i : ℕ) → k < i → get_or bars i 0 ≡ get_or (table 65 (suc k) 0 (bar_key near keys k)) i 0
      past i h = w.past i h ∙ sym (table_past 65 (suc k) 0 (bar_key near keys k) i (omega arith))
