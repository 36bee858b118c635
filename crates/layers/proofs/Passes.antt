-- Passes over a list that count or test its entries: what holds of the entries passed, and one entry more. Assumes nothing.
use mathlib.Core.Bool.{Bool, true, false, not, ◌&&◌}
use mathlib.Core.List.{List, [], ◌∷◌}
use mathlib.Core.Logic.{◌⊎◌, ⊎_elim}
use mathlib.Core.Path.{◌≡◌, refl, sym, ap, ◌∙◌}
use Rattle.std.specs.Prelude.{max}
use Prim.Native.Nat.{ℕ, zero, suc, ◌+◌, ◌-◌, ◌≤◌, ◌<◌}
use native.Mathlib.Numerals.{add-one}
use native.Mathlib.Omega.{arith}
use lib.Dec.{eqb, leb, ltb, leb-zero}
use lib.ListN.{length, get_or, take, drop, length-drop}
use lib.Seq.{length-take-le, take_all}
use borrow.Author.Tests.{eq-eqb, ne_eqb, leb-true, le-leb, lt-ltb, le-ltb}
use Rattle.std.specs.Prelude.{cond}
use Rattle.std.proofs.Common.{Less, Equal, Greater}
use Rattle.std.specs.Ordering.{is_lt, nat_cmp, ord_max}
use Rattle.std.specs.List.{list_all}
use Rattle.std.proofs.lemmas.List.Folds.{list_all_more}
use Rattle.std.proofs.lemmas.List.{get_or-take}
use Rattle.paging.specs.Sets.{count, each, only}
use Rattle.paging.specs.Tests.{and_in, and_left, and_right, le_or_lt, same_test}
use Rattle.paging.specs.Layers.{in_layer}
use Rattle.layers.specs.Asked.{layer_at}

-- what a turn's `if` leaves of a counter: it grew by one where the test held, else it stayed
abbrev pub Turn : Type 0 → Type 0 → ℕ → ℕ → Type 0
Turn held failed n n' = (held × (n' ≡ n + 1)) ⊎ (failed × (n' ≡ n))

-- ---- pages_in: n of the first q entries are j

pub record Counted (l : List ℕ) (j q n : ℕ) : Type 0 where
  pub few : n ≤ q
  pub is : n ≡ count (in_layer (layer_at l) j) q

pub counted_none : (l : List ℕ) (j : ℕ) → Counted l j 0 0
unfolding count
counted_none l j = record { few = omega arith; is = refl }

-- the entry passed is read out of the first N
pub counted_step :
    {l : List ℕ} {N j q n n' : ℕ} →
    Counted l j q n →
    q < N →
    Turn (get_or (take N l) q 0 ≡ j) (get_or (take N l) q 0 ≡ j → ⊥) n n' →
    Counted l j (q + 1) n'
unfolding count
counted_step {l} {N} {j} {q} {n} {n'} h less came = record { few = ⊎_elim (λ w. omega arith) (λ w. omega arith) came; is = more }
  where
    same : get_or (take N l) q 0 ≡ get_or l q 0
    same = get_or-take N l q 0 less

    more : n' ≡ count (in_layer (layer_at l) j) (q + 1)
    more =
        rw
        (add-one q)
        (⊎_elim
        (λ w. rw (eq-eqb (get_or l q 0) j (sym same ∙ w.0)) (omega arith))
        (λ w. rw (ne_eqb (get_or l q 0) j (λ e. w.0 (same ∙ e))) (omega arith))
        came)

-- ---- bounded: m, the greatest of the first q entries, is at most k where each of them is

pub record Most (l : List ℕ) (k q m : ℕ) : Type 0 where
  pub is : leb m k ≡ each q (λ i. leb (get_or l i 0) k)

pub most_none : (l : List ℕ) (k : ℕ) → Most l k 0 0
unfolding each
most_none l k = record { is = leb-zero k }

is_less : (t u : Bool) → is_lt (cond t Less (cond u Equal Greater)) ≡ t
is_less true u = refl
is_less false true = refl
is_less false false = refl

greater : (a b : ℕ) → ord_max nat_cmp a b ≡ max a b
greater a b = rw (is_less (ltb b a) (eqb b a)) (⊎_elim (λ h. rw (le-ltb b a h) (omega arith)) (λ h. rw (lt-ltb b a h) (omega arith)) (le_or_lt a b))

pub most_step : {l : List ℕ} {N k q m m' : ℕ} → Most l k q m → q < N → m' ≡ ord_max nat_cmp m (get_or (take N l) q 0) → Most l k (q + 1) m'
unfolding each
most_step {l} {N} {k} {q} {m} {m'} h less came =
    record { is = rw (add-one q, ← h.is) (same_test (leb m' k) (leb m k && leb (get_or l q 0) k) there back) }
  where
    greatest : m' ≡ max m (get_or l q 0)
    greatest = came ∙ rw (get_or-take N l q 0 less) (greater m (get_or l q 0))

    there : leb m' k ≡ true → leb m k && leb (get_or l q 0) k ≡ true
    there t =
        let g = leb-true m' k t in
        and_in (leb m k) (leb (get_or l q 0) k) (le-leb m k (omega (arith, greatest))) (le-leb (get_or l q 0) k (omega (arith, greatest)))

    back : leb m k && leb (get_or l q 0) k ≡ true → leb m' k ≡ true
    back t =
        let a = leb-true m k (and_left (leb m k) (leb (get_or l q 0) k) t) in
        let b = leb-true (get_or l q 0) k (and_right (leb m k) (leb (get_or l q 0) k) t) in
        le-leb m' k (omega (arith, greatest))

-- ---- filled: entries 1 to k are 1

each_front : (n : ℕ) (f : ℕ → Bool) → each (suc n) f ≡ f 0 && each n (λ i. f (suc i))
unfolding each
each_front zero f = lone (f 0)
  where
    lone : (b : Bool) → true && b ≡ b && true
    lone true = refl
    lone false = refl
each_front (suc n) f = rw (each_front n f) (regroup (f 0) (each n (λ i. f (suc i))) (f (suc n)))
  where
    regroup : (a b c : Bool) → (a && b) && c ≡ a && (b && c)
    regroup true b c = refl
    regroup false b c = refl

each_listed : (p : ℕ → Bool) (l : List ℕ) → list_all p l ≡ each (length l) (λ i. p (get_or l i 0))
unfolding each
each_listed p [] = refl
each_listed p (x ∷ l) = rw (each_listed p l) (sym (each_front (length l) (λ i. p (get_or (x ∷ l) i 0))))

pub each_same : (n : ℕ) (f g : ℕ → Bool) → ((i : ℕ) → i < n → f i ≡ g i) → each n f ≡ each n g
unfolding each
each_same zero f g s = refl
each_same (suc n) f g s = rw (each_same n f g (λ i l. s i (omega arith)), s n (omega arith))

pub each_marked :
    (l : List ℕ) (k : ℕ) → suc k ≤ length l → list_all (λ x. eqb x 1) (take k (drop 1 l)) ≡ each k (λ j. eqb (get_or l (suc j) 0) 1)
each_marked [] k h = absurd (omega arith)
each_marked (x ∷ l) k h =
    let size : length (take k l) ≡ k = length-take-le k l (omega arith) in
    each_listed (λ y. eqb y 1) (take k l)
    ∙ rw size (each_same k (λ i. eqb (get_or (take k l) i 0) 1) (λ i. eqb (get_or l i 0) 1) (λ i less. rw (get_or-take k l i 0 less)))

-- ---- only_from: n of the entries passed fail a test

pub record Others {A : Type 0} (same : A → Bool) (l : List A) (q n : ℕ) : Type 0 where
  pub few : n ≤ q
  pub is : eqb n 0 ≡ list_all same (take q l)

pub others_none : {A : Type 0} (same : A → Bool) (l : List A) → Others same l 0 0
others_none same l = record { few = omega arith; is = refl }

-- `differs` is what the turn's test found of the entry x
pub others_step :
    {A : Type 0} {same : A → Bool} {l : List A} {q n n' : ℕ} {x : A} {differs : Bool} →
    Others same l q n →
    q < length l →
    x ≡ get_or l q x →
    differs ≡ not (same x) →
    Turn (differs ≡ true) (differs ≡ false) n n' →
    Others same l (q + 1) n'
others_step {same = same} {l} {q} {n} {n'} {x} {differs} h less at told came =
    record {
      few = ⊎_elim (λ w. omega arith) (λ w. omega arith) came;
      is = rw (list_all_more same l q x less, ← at, ← h.is) (⊎_elim other alike came);
    }
  where
    turned : (b : Bool) → differs ≡ b → not b ≡ same x
    turned b e = ap not (sym e ∙ told) ∙ twice (same x)
      where
        twice : (b : Bool) → not (not b) ≡ b
        twice true = refl
        twice false = refl

    never : (b : Bool) → b && false ≡ false
    never true = refl
    never false = refl

    whole : (b : Bool) → b && true ≡ b
    whole true = refl
    whole false = refl

    other : (differs ≡ true) × (n' ≡ n + 1) → eqb n' 0 ≡ eqb n 0 && same x
    other w = rw (← turned true w.0, ne_eqb n' 0 (λ z. omega arith)) (sym (never (eqb n 0)))

    alike : (differs ≡ false) × (n' ≡ n) → eqb n' 0 ≡ eqb n 0 && same x
    alike w = rw (← turned false w.0, w.1) (sym (whole (eqb n 0)))

pub others_end :
    {A : Type 0} {same : A → Bool} {q n : ℕ} (l : List A) (from : ℕ) →
    Others same (take (length l - from) (drop from l)) q n →
    length (take (length l - from) (drop from l)) ≤ q →
    eqb n 0 ≡ list_all same (drop from l)
others_end {q = q} l from h past =
    h.is ∙ rw (take_all q (take (length l - from) (drop from l)) past, take_all (length l - from) (drop from l) (omega (arith, length-drop from l)))

-- the same in the words of `paging`
pub only_told : (x : ℕ) (xs : List ℕ) (r : Bool) → r ≡ list_all (λ y. eqb y x) xs → r ≡ only x xs
unfolding only
only_told x xs r e = e ∙ same xs
  where
    same : (xs : List ℕ) → list_all (λ y. eqb y x) xs ≡ only x xs
    same [] = refl
    same (y ∷ ys) = ap (λ b. eqb y x && b) (same ys)
