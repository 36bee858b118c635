-- What one turn of a loop over slots or layers does to what its invariant says. Assumes nothing.
use Rattle.std.specs.Prelude.{Some, None, if◌then◌else◌}
use Rattle.paging.specs.Count.{count_most as count_at_most}
use mathlib.Core.Bool.{Bool, true, false, ◌&&◌}
use mathlib.Core.List.{List}
use mathlib.Core.Logic.{⊎_elim}
use mathlib.Core.Option
use mathlib.Core.Option.{Option, none, some}
use mathlib.Core.Path.{Path, ◌≡◌, refl, sym, ap, ◌∙◌}
use Prim.Native.Nat.{ℕ, suc, ◌+◌, min, ◌≤◌, ◌<◌, ◌-◌, max}
use native.Mathlib.Numerals.{add-one}
use native.Mathlib.Omega.{arith}
use lib.Dec.{eqb}
use Rattle.std.proofs.lemmas.List.{get_or-take}
use lib.ListN.{take, length, length-take, get_or, set, replicate, get_or-eq_default}
use borrow.Author.Tests.{eqb-true, eq-eqb, ne_eqb, le-leb, lt-leb}
use Rattle.paging.specs.Sets.{◌=?◌, ◌≤?◌, bit, count, or_else, first, listed}
use Rattle.paging.specs.Tests.{clash, isnt, and_in, and_right, le_or_lt}
use Rattle.paging.specs.Words.{first_some, first_is, first_same}
use Rattle.ranking.specs.Key.{no_key}
use Rattle.slots.specs.Slots.{no_page, seat, found, entries_of, near_to, tally_of, least_key}
use Rattle.slots.specs.Laws.{near_most, near_more}
use Rattle.paging.specs.Tables.{entry_any, listed_entry, listed_set, fill_more}

-- ---- a search: nothing below i is what is looked for

abbrev pub Passed : (ℕ → Bool) → ℕ → Type 0
Passed f i = (j : ℕ) → j < i → f j ≡ false

pub found_here : (n : ℕ) (f : ℕ → Bool) (i : ℕ) → i < n → Passed f i → f i ≡ true → Some i ≡ found (first n f)
found_here n f i l passed e =
    ap found (sym (first_is n f i (record { below = l; member = e; none_before = passed })))

pub found_none : (n : ℕ) (f : ℕ → Bool) (i : ℕ) → n ≤ i → Passed f i → None ≡ found (first n f)
found_none n f i l passed = go (first n f) refl
  where
    go : (x : Option ℕ) → Path (Option ℕ) (first n f) x → None ≡ found (first n f)
    go none e = ap found (sym e)
    go (some j) e =
        let w = first_some n f j e in
        absurd (clash w.member (passed j (omega (arith, w.below))))

-- what `reach` looks for: from i on, j slots with a page of a layer up to j
abbrev pub full : List ℕ → ℕ → ℕ → ℕ → Bool
full near k i j = i ≤? j && near_to near k j =? j

pub full_before : (near : List ℕ) (k i : ℕ) → Passed (full near k i) i
full_before near k i j l = rw (lt-leb i j l)

pub full_here : (near : List ℕ) (k i j n : ℕ) → i ≤ j → n ≡ near_to near k j → n ≡ j → full near k i j ≡ true
full_here near k i j n l e h = and_in (i ≤? j) (near_to near k j =? j) (le-leb i j l) (eq-eqb (near_to near k j) j (sym e ∙ h))

pub full_not : (near : List ℕ) (k i j n : ℕ) → n ≡ near_to near k j → (n ≡ j → ⊥) → full near k i j ≡ false
full_not near k i j n e h =
    isnt (full near k i j) (λ t. h (e ∙ eqb-true (near_to near k j) j (and_right (i ≤? j) (near_to near k j =? j) t)))

-- nothing below j is what is looked for: then the search may begin with j
pub full_from : (near : List ℕ) (k i j : ℕ) → i ≤ j → Passed (full near k i) j → (n : ℕ) → Path (Option ℕ) (first n (full near k j)) (first n (full near k i))
full_from near k i j l passed n = first_same n (full near k j) (full near k i) same
  where
    same : (q : ℕ) → full near k j q ≡ full near k i q
    same q = ⊎_elim above before (le_or_lt j q)
      where
        above : j ≤ q → full near k j q ≡ full near k i q
        above h = rw (le-leb j q h, le-leb i q (omega arith))

        before : q < j → full near k j q ≡ full near k i q
        before h = full_before near k j q h ∙ sym (passed q h)

-- ---- reads

-- a slot that holds a page is a slot of the list
pub record PageAt (h : List ℕ) (s : ℕ) : Type 0 where
  pub same : get_or h s 0 ≡ get_or h s no_page
  pub page : get_or h s no_page < 1024

pub page_read : (h : List ℕ) (s : ℕ) → get_or h s no_page < 1024 → PageAt h s
page_read h s l =
    record { same = ⊎_elim past (λ i. entry_any h s 0 no_page i) (le_or_lt (length h) s); page = l }
  where
    past : length h ≤ s → get_or h s 0 ≡ get_or h s no_page
    past o = absurd (omega (arith, get_or-eq_default h no_page {n = s} o))

-- what `find` keeps: the first of the slots passed that holds q, 64 where none does
unfoldable pub soonest : List ℕ → ℕ → ℕ → ℕ
soonest h q s = Option.get_or (seat h s q) 64

soonest_none : (h : List ℕ) (q : ℕ) → 64 ≡ soonest h q 0
unfolding soonest seat first
soonest_none h q = refl

module _ (h : List ℕ) (q : ℕ) where
  abbrev test : ℕ → Bool
  test s = get_or h s no_page =? q

  -- a slot more
  more : (x : Option ℕ) (s : ℕ) (b : Bool) → s ≤ 64 → ((t : ℕ) → Path (Option ℕ) x (some t) → t < s) →
      Option.get_or (or_else x (if b then some s else none)) 64 ≡ min (Option.get_or x 64) (if b then s else 64)
  more (some t) s true l below = let m = below t refl in omega arith
  more (some t) s false l below = let m = below t refl in omega arith
  more none s true l below = omega arith
  more none s false l below = omega arith

  soonest_next :
      (at s r entry : ℕ) → s < length h → s ≤ 64 → entry ≡ get_or h s 0 → at ≡ soonest h q s → r ≡ min at (if entry =? q then s else 64) →
      r ≡ soonest h q (s + 1)
  unfolding soonest seat first
  soonest_next at s r entry i l ee ea er =
      rw (add-one s, er, ea, ee, entry_any h s 0 no_page i)
      (sym (more (first s test) s (test s) l (λ t e. (first_some s test t e).below)))

  -- counted from the end: what the code keeps is 64 less the slot, 0 where there is none
  pub record Left (s left : ℕ) : Type 0 where
    pub small : left ≤ 64
    pub slot : 64 - left ≡ soonest h q s

  pub left_none : Left 0 0
  left_none = record { small = omega arith; slot = soonest_none h q }

  turned : (left s rest r : ℕ) (b : Bool) → left ≤ 64 → rest + s ≡ 64 → r ≡ max left (if b then rest else 0) →
      (r ≤ 64) × (64 - r ≡ min (64 - left) (if b then s else 64))
  turned left s rest r true a l e = (omega arith, omega arith)
  turned left s rest r false a l e = (omega arith, omega arith)

  pub left_next :
      (left s rest r entry : ℕ) → s < length h → rest + s ≡ 64 → entry ≡ get_or h s 0 → Left s left → r ≡ max left (if entry =? q then rest else 0) →
      Left (s + 1) r
  left_next left s rest r entry i l ee w er =
      let (small, slot) = turned left s rest r (entry =? q) w.small l er in
      record { small = small; slot = soonest_next (64 - left) s (64 - r) entry i (omega arith) ee w.slot slot }

  -- all slots passed
  soonest_here : (at k : ℕ) → k ≤ 64 → at ≡ soonest h q k → at < 64 → Some at ≡ found (seat h k q)
  unfolding soonest
  soonest_here at k l e low = go (seat h k q) refl
    where
      go : (x : Option ℕ) → Path (Option ℕ) (seat h k q) x → Some at ≡ found (seat h k q)
      go none f = let z : at ≡ 64 = e ∙ ap (λ (y : Option ℕ). Option.get_or y 64) f in absurd (omega arith)
      go (some t) f = let z : at ≡ t = e ∙ ap (λ (y : Option ℕ). Option.get_or y 64) f in rw (f, z)

  soonest_nowhere : (at k : ℕ) → k ≤ 64 → at ≡ soonest h q k → 64 ≤ at → None ≡ found (seat h k q)
  unfolding soonest seat
  soonest_nowhere at k l e high = go (first k test) refl
    where
      go : (x : Option ℕ) → Path (Option ℕ) (first k test) x → None ≡ found (first k test)
      go none f = ap found (sym f)
      go (some t) f =
          let z : at ≡ t = e ∙ ap (λ (y : Option ℕ). Option.get_or y 64) f in
          absurd (omega (arith, (first_some k test t f).below))

  pub left_here : (left k : ℕ) → k ≤ 64 → Left k left → 0 < left → Some (64 - left) ≡ found (seat h k q)
  left_here left k l w pos = soonest_here (64 - left) k l w.slot (omega arith)

  pub left_nowhere : (left k : ℕ) → k ≤ 64 → Left k left → left ≤ 0 → None ≡ found (seat h k q)
  left_nowhere left k l w none_left = soonest_nowhere (64 - left) k l w.slot (omega arith)

-- ---- one slot more

-- what a pass over the first k entries reads at its turn i, and where it ends
pub record Taken (k : ℕ) (l : List ℕ) (i : ℕ) : Type 0 where
  pub below : i < k
  pub inside : i < length l
  pub same : get_or (take k l) i 0 ≡ get_or l i 0

pub taken : (k : ℕ) (l : List ℕ) (i : ℕ) → i < length (take k l) → Taken k l i
taken k l i h =
    let below : i < k = omega (arith, length-take k l) in
    record { below = below; inside = omega (arith, length-take k l); same = get_or-take k l i 0 below }

pub all_taken : (k : ℕ) (l : List ℕ) (i : ℕ) → k ≤ length l → i ≤ length (take k l) → length (take k l) ≤ i → i ≡ k
all_taken k l i f a b = omega (arith, length-take k l)

pub entries_next :
    {A : Type 0} (list : List A) (h : List ℕ) (absent x : A) (entries : List A) (s p : ℕ) →
    s < 64 → p ≡ get_or h s 0 → PageAt h s → length list ≡ 1024 → x ≡ get_or list p x → entries ≡ entries_of list h s absent →
    set entries s x ≡ entries_of list h (s + 1) absent
unfolding entries_of
entries_next list h absent x entries s p l ep w size ex en = rw en (fill_more absent 64 s (λ i. get_or list (get_or h i no_page) absent) _ x l refl here)
  where
    same : p ≡ get_or h s no_page
    same = ep ∙ w.same

    here : x ≡ get_or list (get_or h s no_page) absent
    here = ex ∙ (entry_any list p x absent (omega (arith, same, w.page, size)) ∙ ap (λ (q : ℕ). get_or list q absent) same)

pub count_next :
    (near : List ℕ) (j s n r : ℕ) → n ≡ near_to near s j → r ≡ bit (get_or near s 0 ≤? j) → n + r ≡ near_to near (s + 1) j
unfolding near_to count
count_next near j s n r e er = rw (add-one s) (omega arith)

pub count_most :
    (near : List ℕ) (j s n r : ℕ) → n ≡ near_to near s j → r ≡ bit (get_or near s 0 ≤? j) → n + r ≤ s + 1
count_most near j s n r e er = omega (arith, near_most near (s + 1) j, count_next near j s n r e er)

-- ---- one slot more is one more of its layer

pub tally_none : (near : List ℕ) → replicate 256 0 ≡ tally_of near 0
unfolding tally_of listed count
tally_none near = refl

module _ (near sums : List ℕ) (s j : ℕ) (at : j ≡ get_or near s 0) (small : j < 256) (e : sums ≡ tally_of near s) where
  abbrev layer_count : ℕ → ℕ → ℕ
  layer_count k i = count (λ s. eqb (get_or near s 0) i) k

  pub tally_was : get_or sums j 0 ≡ layer_count s j
  unfolding tally_of
  tally_was = rw e (listed_entry 256 (layer_count s) 0 j small)

  pub tally_most : get_or sums j 0 ≤ s
  tally_most = omega (arith, tally_was, count_at_most (λ s. eqb (get_or near s 0) j) s)

  pub tally_next : set sums j (get_or sums j 0 + 1) ≡ tally_of near (s + 1)
  unfolding tally_of count
  tally_next = rw (tally_was, e, add-one s) (listed_set 256 (layer_count s) (layer_count (suc s)) j (layer_count s j + 1) small here other)
    where
      here : layer_count s j + 1 ≡ layer_count (suc s) j
      here = let one : bit (eqb (get_or near s 0) j) ≡ 1 = rw (eq-eqb (get_or near s 0) j (sym at)) in omega arith

      other : (i : ℕ) → i < 256 → (i ≡ j → ⊥) → layer_count s i ≡ layer_count (suc s) i
      other i l ne =
          let none : bit (eqb (get_or near s 0) i) ≡ 0 = rw (ne_eqb (get_or near s 0) i (λ u. ne (sym u ∙ sym at))) in
          omega arith

pub sum_next :
    (near sums : List ℕ) (k j n r : ℕ) → j < 255 → n ≡ near_to near k j → sums ≡ tally_of near k →
    r ≡ get_or sums (j + 1) 0 → n + r ≡ near_to near k (j + 1)
sum_next near sums k j n r l en es er = let one : j + 1 ≡ suc j = add-one j in rw (en, er, es, one) (near_more near k j (omega arith))

pub least_next :
    (near keys : List ℕ) (j s m p r : ℕ) → m ≡ least_key near keys j s →
    p ≡ (if get_or near s 0 ≤? j then get_or keys s 0 else no_key) → r ≡ min m p → r ≡ least_key near keys j (s + 1)
unfolding least_key
least_next near keys j s m p r em ep er = rw (add-one s, er, em, ep)
