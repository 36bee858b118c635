-- A loop that writes i + 1 into a table of zeros at the entry i of a list of different numbers, one store a turn: after n turns
-- each entry is its number's place among the first n, counted from 1. Assumes nothing.
use mathlib.Core.Bool.{Bool, true, false}
use mathlib.Core.List.{List}
use mathlib.Core.Logic.{⊎_elim}
use mathlib.Core.Option.{Option, none, some}
use mathlib.Core.Path.{Path, ◌≡◌, refl, sym, ap, ◌∙◌}
use Prim.Native.Nat.{ℕ, suc, ◌+◌, ◌≤◌, ◌<◌, zero-le}
use native.Mathlib.Numerals.{add-one}
use native.Mathlib.Omega.{arith}
use lib.Dec.{eqb}
use lib.ListN.{length, get_or, set, replicate, length-set, length-replicate}
use lib.Seq.{get_or-set_same, get_or-set_other, ext_get_or}
use borrow.Author.Tests.{eq-eqb, ne_eqb}
use Rattle.paging.specs.Sets.{or_else, first, table}
use Rattle.paging.specs.Layers.{place, start_layer}
use Rattle.paging.specs.Tests.{clash, same_or_not, le_or_lt}
use Rattle.paging.specs.Words.{first_some, first_is}
use Rattle.paging.specs.Tables.{table_at, table_past}
use Rattle.begin.specs.Begin.{below, different, start_layers}
use Rattle.begin.specs.Laws.{below_true, different_true}
use Rattle.paging.specs.Tables.{fill_none, table_length}

-- the place of q among the first n entries, counted from 1, and 0 where it is none of them
abbrev pub place_of : List ℕ → ℕ → ℕ → ℕ
place_of ps n q = place (first n (λ t. eqb (get_or ps t 0) q))

pub record Placed (ps layer : List ℕ) (n : ℕ) : Type 0 where
  pub size : length layer ≡ 1024
  pub entries : (q : ℕ) → get_or layer q 0 ≡ place_of ps n q

replicate_at : (n d q : ℕ) → get_or (replicate n d) q d ≡ d
replicate_at n d q = rw (fill_none d n (λ i. d)) (table_past n 0 d (λ i. d) q zero-le)

pub placed_none : (ps : List ℕ) → Placed ps (replicate 1024 0) 0
unfolding first
placed_none ps =
    record {
      size = length-replicate {A = ℕ} 1024 0;
      entries = λ q. replicate_at 1024 0 q;
    }

-- one number more: it is the first, or it changes nothing
first_new : (n : ℕ) (f : ℕ → Bool) → f n ≡ true → ((t : ℕ) → t < n → f t ≡ false) → Path (Option ℕ) (first (suc n) f) (some n)
first_new n f e h = first_is (suc n) f n (record { below = omega arith; member = e; none_before = h })

first_same : (n : ℕ) (f : ℕ → Bool) → f n ≡ false → Path (Option ℕ) (first (suc n) f) (first n f)
unfolding first
first_same n f e = rw e (go (first n f))
  where
    go : (x : Option ℕ) → Path (Option ℕ) (or_else x none) x
    go none = refl
    go (some a) = refl

-- none is the first where no number is a member
first_nowhere : (n : ℕ) (f : ℕ → Bool) → ((t : ℕ) → t < n → f t ≡ false) → Path (Option ℕ) (first n f) none
first_nowhere n f h = go (first n f) refl
  where
    go : (x : Option ℕ) → Path (Option ℕ) (first n f) x → Path (Option ℕ) (first n f) none
    go none e = e
    go (some t) e = let w = first_some n f t e in absurd (clash w.member (h t w.below))

module _ (N : ℕ) (ps layer : List ℕ) (fits : N ≤ 1024) (low : below N ps ≡ true) where
  pub placed_more :
      (i : ℕ) →
      different ps ≡ true →
      i < length ps →
      Placed ps layer i →
      Placed ps (set layer (get_or ps i 0) (i + 1)) (i + 1)
  placed_more i once l was =
      record {
        size = length-set layer (get_or ps i 0) (i + 1) ∙ was.size;
        entries = λ q. ⊎_elim (λ s. here q s) (λ s. elsewhere q s) (same_or_not (get_or ps i 0) q);
      }
    where
      first_here : (q : ℕ) → get_or ps i 0 ≡ q → (t : ℕ) → t < i → eqb (get_or ps t 0) q ≡ false
      first_here q s t lt =
          ne_eqb (get_or ps t 0) q (λ a. absurd (omega (arith, different_true ps once t i (omega arith) l (a ∙ sym s))))

      here : (q : ℕ) → get_or ps i 0 ≡ q → get_or (set layer (get_or ps i 0) (i + 1)) q 0 ≡ place_of ps (i + 1) q
      here q s =
          rw (add-one i, first_new i (λ t. eqb (get_or ps t 0) q) (eq-eqb (get_or ps i 0) q s) (first_here q s), ← s)
          (get_or-set_same layer (get_or ps i 0) (suc i) 0 (omega (arith, was.size, below_true N ps low i l)))

      elsewhere : (q : ℕ) → (get_or ps i 0 ≡ q → ⊥) → get_or (set layer (get_or ps i 0) (i + 1)) q 0 ≡ place_of ps (i + 1) q
      elsewhere q s =
          rw (add-one i, first_same i (λ t. eqb (get_or ps t 0) q) (ne_eqb (get_or ps i 0) q s))
          (get_or-set_other layer (get_or ps i 0) q (suc i) 0 (λ a. s (sym a)) ∙ was.entries q)

  pub placed_all : (i : ℕ) → i ≤ length ps → length ps ≤ i → Placed ps layer i → layer ≡ start_layers N ps
  unfolding start_layers start_layer
  placed_all i a b w =
      ext_get_or
      0
      layer
      (table 1024 N 0 (start_layer ps))
      (w.size ∙ sym (table_length 1024 N 0 (start_layer ps) fits))
      (λ q l. ⊎_elim (λ h. past q h) (λ h. page q h) (le_or_lt N q))
    where
      all : (q : ℕ) → get_or layer q 0 ≡ place_of ps (length ps) q
      all q = let s : length ps ≡ i = omega arith in rw s (w.entries q)

      page : (q : ℕ) → q < N → get_or layer q 0 ≡ get_or (table 1024 N 0 (start_layer ps)) q 0
      page q h = all q ∙ sym (table_at 1024 N 0 (start_layer ps) q h)

      missing : (q : ℕ) → N ≤ q → Path (Option ℕ) (first (length ps) (λ t. eqb (get_or ps t 0) q)) none
      missing q h =
          first_nowhere
          (length ps)
          (λ t. eqb (get_or ps t 0) q)
          (λ t lt. ne_eqb (get_or ps t 0) q (λ s. omega (arith, below_true N ps low t lt)))

      past : (q : ℕ) → N ≤ q → get_or layer q 0 ≡ get_or (table 1024 N 0 (start_layer ps)) q 0
      past q h = all q ∙ ap place (missing q h) ∙ sym (table_past 1024 N 0 (start_layer ps) q h)
