-- Laws of the numbers of words: a number that is written is read back, and numbers are put in one by one. Assumes nothing.
use Rattle.std.specs.Prelude.{Bool, true, false, ◌&&◌, List, [], ◌∷◌, ◌++◌, ◌≡◌, refl, ℕ, zero, suc, ◌+◌, ◌/◌, ◌%◌, ◌≤◌, ◌<◌, length, set, Option, Some, None}
use Rattle.std.proofs.Common.{sym, ◌∙◌, arith, leb-true, le-leb}
use Rattle.paging.specs.Sets.{◌≤?◌}
use Rattle.paging.specs.Tests.{and_right}
use Rattle.words.specs.Words.{put}
use Rattle.words.specs.Laws.{put_put}
use Rattle.text.specs.Text.{digits_to, decimal}
use Rattle.text.specs.Laws.{value_of, value_decimal, decimal_some}
use Rattle.hexadecimal.specs.Laws.{set_put}
use Rattle.fields.specs.Fields.{all_decimal, number_from, number_of}

pub number_first : (most : ℕ) (w : List ℕ) → (length w ≡ 0 → ⊥) → number_of most w ≡ number_from most 0 w
unfolding number_of
number_first most [] n = absurd (n refl)
number_first most (c ∷ cs) n = refl

regroup : (a b d e : Bool) → (a && b && (d && e)) ≡ ((a && b && d) && e)
regroup true true d e = refl
regroup true false d e = refl
regroup false b d e = refl

decimal_append : (xs ys : List ℕ) → all_decimal (xs ++ ys) ≡ (all_decimal xs && all_decimal ys)
unfolding all_decimal
decimal_append [] ys = refl
decimal_append (x ∷ xs) ys = rw (decimal_append xs ys) (regroup (48 ≤? x) (x ≤? 57) (all_decimal xs) (all_decimal ys))

last_decimal : (n : ℕ) → all_decimal ((48 + n % 10) ∷ []) ≡ true
unfolding all_decimal
last_decimal n =
    let from : 48 ≤ 48 + n % 10 = omega arith in
    let to : 48 + n % 10 ≤ 57 = omega arith in
    rw (le-leb 48 (48 + n % 10) from, le-leb (48 + n % 10) 57 to)

digits_decimal : (w n : ℕ) → all_decimal (digits_to w n) ≡ true
unfolding digits_to all_decimal
digits_decimal zero n = refl
digits_decimal (suc w) zero = refl
digits_decimal (suc w) (suc n) =
    decimal_append (digits_to w (suc n / 10)) ((48 + suc n % 10) ∷ []) ∙ rw (digits_decimal w (suc n / 10), last_decimal (suc n))

decimal_right : (n : ℕ) → all_decimal (decimal n) ≡ true
unfolding decimal all_decimal
decimal_right zero = refl
decimal_right (suc n) = digits_decimal 20 (suc n)

from_decimal : (most n : ℕ) → n ≤ most → n ≤ 18446744073709551615 → number_from most 0 (decimal n) ≡ Some n
unfolding number_from
from_decimal most n l h = rw (decimal_right n, value_decimal n h, le-leb n most l)

pub number_back : (most n : ℕ) → n ≤ most → most ≤ 4294967295 → number_of most (decimal n) ≡ Some n
number_back most n l h =
    number_first most (decimal n) (λ e. omega (arith, decimal_some n)) ∙ from_decimal most n l (omega arith)

-- ---- a number put at its place of a buffer, and the others behind it

pub put_more : (s : List ℕ) (at x : ℕ) (ys : List ℕ) → at < length s → put s at (x ∷ ys) ≡ put (set s at x) (at + 1) ys
put_more s at x ys l = sym (put_put s at (x ∷ []) ys (omega arith)) ∙ rw (set_put s at x l)

-- ---- a number that is read is at most the largest

amount : Option ℕ → ℕ
amount (Some n) = n
amount None = 0

amount_most : (most : ℕ) (w : List ℕ) → amount (number_of most w) ≤ most
unfolding amount number_of number_from
amount_most most [] = omega arith
amount_most most (c ∷ cs) = go (all_decimal (c ∷ cs) && value_of 0 (c ∷ cs) ≤? most) refl
  where
    go : (t : Bool) → (all_decimal (c ∷ cs) && value_of 0 (c ∷ cs) ≤? most) ≡ t → amount (number_of most (c ∷ cs)) ≤ most
    go true e = rw e (leb-true (value_of 0 (c ∷ cs)) most (and_right (all_decimal (c ∷ cs)) (value_of 0 (c ∷ cs) ≤? most) e))
    go false e = rw e (omega arith)

pub number_most : (most : ℕ) (w : List ℕ) (n : ℕ) → Some n ≡ number_of most w → n ≤ most
unfolding amount
number_most most w n e = rw (← e) at (amount_most most w)
