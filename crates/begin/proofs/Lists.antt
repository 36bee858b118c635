-- Tests and tables of a list by the library's functions of lists. Assumes nothing.
use Rattle.std.specs.Prelude.{Bool, true, not, List, [], ◌∷◌, ◌++◌, ◌≡◌, refl, ℕ, zero, suc, ◌≤◌, ◌<◌, length, take, drop, replicate, nat_eq, slice_index_or}
use Rattle.std.specs.List.{list_all, list_any, enumerate_from}
use Rattle.std.proofs.Common.{⊎_elim, sym, ap, ◌∙◌, add-one, zero-add, arith, eqb-true, eq-eqb}
use borrow.Author.Tests.{not-true}
use Rattle.std.proofs.lemmas.List.Folds.{list_all_more, list_any_more}
use Rattle.std.proofs.lemmas.List.FromFn.{length-enumerate_from, get_or-enumerate_from}
use Rattle.std.proofs.lemmas.List.{drop-replicate}
use lib.Seq.{take_all}
use Rattle.paging.specs.Sets.{each, any, listed, table}
use Rattle.paging.specs.Tests.{clash, isnt, same_test, le_or_lt}
use Rattle.paging.specs.Words.{each_true, each_in, any_true, any_in}
use Rattle.begin.specs.Begin.{different, start_priorities, start_slots}
use Rattle.begin.specs.Laws.{different_true, different_in}

-- the numbers below n by their test, the first n entries by theirs
each_front : {A : Type 0} (p : A → Bool) (d : A) (xs : List A) (n : ℕ) → n ≤ length xs → each n (λ i. p (slice_index_or xs i d)) ≡ list_all p (take n xs)
unfolding each
each_front p d xs zero h = refl
each_front p d xs (suc n) h =
    rw (each_front p d xs n (omega arith), ← add-one n) (sym (list_all_more p xs n d (omega arith)))

pub each_entry : {A : Type 0} (p : A → Bool) (d : A) (xs : List A) → list_all p xs ≡ each (length xs) (λ i. p (slice_index_or xs i d))
each_entry p d xs = sym (each_front p d xs (length xs) (omega arith) ∙ ap (list_all p) (take_all (length xs) xs (omega arith)))

any_front : {A : Type 0} (p : A → Bool) (d : A) (xs : List A) (n : ℕ) → n ≤ length xs → any n (λ i. p (slice_index_or xs i d)) ≡ list_any p (take n xs)
unfolding any
any_front p d xs zero h = refl
any_front p d xs (suc n) h =
    rw (any_front p d xs n (omega arith), ← add-one n) (sym (list_any_more p xs n d (omega arith)))

pub each_same : (n : ℕ) (f g : ℕ → Bool) → ((i : ℕ) → i < n → f i ≡ g i) → each n f ≡ each n g
unfolding each
each_same zero f g h = refl
each_same (suc n) f g h = rw (each_same n f g (λ i l. h i (omega arith)), h n (omega arith))

-- the entries with their places, by a test of both
pub each_placed : {A : Type 0} (p : ℕ × A → Bool) (d : A) (xs : List A) → list_all p (enumerate_from 0 xs) ≡ each (length xs) (λ i. p (i, slice_index_or xs i d))
each_placed p d xs =
    each_entry p (0, d) (enumerate_from 0 xs)
    ∙ (ap (λ (n : ℕ). each n (λ i. p (slice_index_or (enumerate_from 0 xs) i (0, d)))) (length-enumerate_from 0 xs)
    ∙ each_same (length xs) _ _ (λ i l. ap p (get_or-enumerate_from 0 xs i (0, d) l ∙ ap (λ (j : ℕ). (j, slice_index_or xs i d)) (zero-add i))))

-- no entry stood before it
abbrev fresh : List ℕ → ℕ → Bool
fresh ps t = not (any t (λ u. nat_eq (slice_index_or ps u 0) (slice_index_or ps t 0)))

fresh_in : (ps : List ℕ) → different ps ≡ true → (t : ℕ) → t < length ps → fresh ps t ≡ true
fresh_in ps d t l = rw (isnt (any t (λ u. nat_eq (slice_index_or ps u 0) (slice_index_or ps t 0))) (λ e. earlier (any_true t _ e)))
  where
    earlier : (u : ℕ) × (u < t) × (nat_eq (slice_index_or ps u 0) (slice_index_or ps t 0) ≡ true) → ⊥
    earlier (u, b, m) = omega (arith, different_true ps d u t (omega arith) l (eqb-true (slice_index_or ps u 0) (slice_index_or ps t 0) m))

fresh_each : (ps : List ℕ) → ((t : ℕ) → t < length ps → fresh ps t ≡ true) → different ps ≡ true
fresh_each ps h = different_in ps (λ t u lt lu e. ⊎_elim (λ a. same t u lu a e) (λ b. absurd (earlier u t lt b (sym e))) (le_or_lt t u))
  where
    earlier : (t u : ℕ) → u < length ps → t < u → slice_index_or ps t 0 ≡ slice_index_or ps u 0 → ⊥
    earlier t u lu b e =
        clash
        (any_in u (λ v. nat_eq (slice_index_or ps v 0) (slice_index_or ps u 0)) t b (eq-eqb (slice_index_or ps t 0) (slice_index_or ps u 0) e))
        (not-true _ (h u lu))

    same : (t u : ℕ) → u < length ps → t ≤ u → slice_index_or ps t 0 ≡ slice_index_or ps u 0 → t ≡ u
    same t u lu a e = ⊎_elim (λ b. omega arith) (λ b. absurd (earlier t u lu b e)) (le_or_lt u t)

-- the entries before a place hold the entry there or not
abbrev pub unseen : List ℕ → ℕ × ℕ → Bool
unseen ps e = not (list_any (λ y. nat_eq y e.1) (take e.0 ps))

pub each_unseen : (ps : List ℕ) → list_all (unseen ps) (enumerate_from 0 ps) ≡ different ps
each_unseen ps = each_placed (unseen ps) 0 ps ∙ (each_same (length ps) _ (fresh ps) (λ i l. ap not (sym (any_front _ 0 ps i (omega arith)))) ∙ all)
  where
    all : each (length ps) (fresh ps) ≡ different ps
    all = same_test _ _ (λ e. fresh_each ps (each_true (length ps) (fresh ps) e)) (λ d. each_in (length ps) (fresh ps) (fresh_in ps d))

-- ---- a list in an array

listed_self : {A : Type 0} (xs : List A) (d : A) → listed (length xs) (λ i. slice_index_or xs i d) ≡ xs
unfolding listed
listed_self [] d = refl
listed_self (x ∷ xs) d = ap (λ t. x ∷ t) (listed_self xs d)

-- what stands behind the list is as it was
pub list_table :
    {A : Type 0} (size : ℕ) (d : A) (xs : List A) →
    xs ++ drop (length xs) (replicate size d) ≡ table size (length xs) d (λ i. slice_index_or xs i d)
unfolding table
list_table size d xs = rw (listed_self xs d, drop-replicate (length xs) size d)

-- such tables are those of a start
pub padded_priorities : (N : ℕ) (ps : List ℕ) → length ps ≡ N → table 1024 (length ps) 0 (λ i. slice_index_or ps i 0) ≡ start_priorities N ps
unfolding start_priorities
padded_priorities N ps e = ap (λ (n : ℕ). table 1024 n 0 (λ i. slice_index_or ps i 0)) e

pub padded_slots : (k : ℕ) (ps : List ℕ) → length ps ≡ k → table 64 (length ps) 65535 (λ i. slice_index_or ps i 65535) ≡ start_slots k ps
unfolding start_slots
padded_slots k ps e = ap (λ (n : ℕ). table 64 n 65535 (λ i. slice_index_or ps i 65535)) e
