-- How many digits a number has, and what a turn of the loop that writes them leaves. Assumes nothing.
use mathlib.Core.List.{List, [], ◌∷◌, ◌++◌, append_assoc}
use mathlib.Core.Bool.{Bool}
use mathlib.Core.Path.{◌≡◌, refl, sym}
use Prim.Native.Nat.{ℕ, zero, suc, ◌+◌, ◌*◌, ◌-◌, ◌/◌, ◌%◌, ◌^◌, ◌≤◌, ◌<◌}
use native.Mathlib.Omega.{arith}
use Rattle.std.proofs.Common.{pow-suc, drop-drop}
use borrow.Rule.Slice.PartMut.{put_mid}
use lib.ListN.{length, set, drop, length-append}
use lib.Seq.{drop-cons, drop-set-lt, get_or-set_same, lt-length-set, take-set-le}
use Rattle.words.specs.Words.{put}
use Rattle.words.specs.Laws.{put_none}
use Rattle.std.specs.Prelude.{Option, Some, None, IfSome, IfNone, unwrap_or}
use Rattle.serve.specs.declared.Event.{Event}
use Rattle.text.specs.Text.{digits_to, decimal, event_line}
use Rattle.text.specs.Told.{told_length, told_room}
use Rattle.text.specs.Telling.{Telling, begin}

-- ---- how many digits a number has, by the power of ten that is not above it

digits_none : (w n : ℕ) → n ≡ 0 → length (digits_to w n) ≡ 0
unfolding digits_to
digits_none zero n e = refl
digits_none (suc w) zero e = refl
digits_none (suc w) (suc n) e = absurd (omega arith)

digits_count : (w k n : ℕ) → k < w → 10 ^ k ≤ n → n < 10 * 10 ^ k → length (digits_to w n) ≡ suc k
unfolding digits_to
digits_count zero k n l h g = absurd (omega arith)
digits_count (suc w) zero zero l h g = absurd (omega arith)
digits_count (suc w) zero (suc n) l h g = rw length-append (omega (arith, digits_none w (suc n / 10) (omega arith)))
digits_count (suc w) (suc k) zero l h g =
    let low : 10 ^ k * 10 ≤ 0 = rw pow-suc at h in
    let high : 0 < 10 * (10 ^ k * 10) = rw pow-suc at g in
    absurd (omega (arith, digits_count w k 0 (omega arith) (omega arith) (omega arith), digits_none w 0 refl))
digits_count (suc w) (suc k) (suc n) l h g =
    let low : 10 ^ k * 10 ≤ suc n = rw pow-suc at h in
    let high : suc n < 10 * (10 ^ k * 10) = rw pow-suc at g in
    rw length-append (omega (arith, digits_count w k (suc n / 10) (omega arith) (omega arith) (omega arith)))

pub decimal_count : (k n : ℕ) → k < 20 → 10 ^ k ≤ n → n < 10 * 10 ^ k → 1 + k ≡ length (decimal n)
unfolding decimal
decimal_count k zero l h g = absurd (omega (arith, digits_count 20 k 0 l h g, digits_none 20 0 refl))
decimal_count k (suc n) l h g = omega (arith, digits_count 20 k (suc n) l h g)

pub decimal_zero : (n : ℕ) → n ≡ 0 → 1 ≡ length (decimal n)
unfolding decimal
decimal_zero zero e = refl
decimal_zero (suc n) e = absurd (omega arith)

pub count_told :
    (n : ℕ) (o : Option ℕ) →
    IfNone o (n ≡ 0) → IfSome o (λ k. 10 ^ k ≤ n) → IfSome o (λ k. n < 10 * 10 ^ k) → IfSome o (λ k. k < 20) →
    1 + unwrap_or o 0 ≡ length (decimal n)
count_told n None e h g l = decimal_zero n e
count_told n (Some k) e h g l = decimal_count k n l h g

-- ---- the loop that writes digits from the last on

-- the last k digits of a number, with zeros in front where it has fewer
unfoldable pub last_digits : ℕ → ℕ → List ℕ
last_digits zero n = []
last_digits (suc k) n = last_digits k (n / 10) ++ ((48 + n % 10) ∷ [])

last_length : (k n : ℕ) → length (last_digits k n) ≡ k
unfolding last_digits
last_length zero n = refl
last_length (suc k) n = rw (length-append, last_length k (n / 10)) (omega arith)

digits_last : (w n k : ℕ) → length (digits_to w n) ≡ k → last_digits k n ≡ digits_to w n
unfolding digits_to last_digits
digits_last zero n zero e = refl
digits_last zero n (suc k) e = absurd (omega arith)
digits_last (suc w) zero zero e = refl
digits_last (suc w) zero (suc k) e = absurd (omega arith)
digits_last (suc w) (suc n) zero e = absurd (omega (arith, simp length-append at e))
digits_last (suc w) (suc n) (suc k) e =
    let rest : length (digits_to w (suc n / 10)) + 1 ≡ suc k = rw length-append at e in
    rw (digits_last w (suc n / 10) k (omega arith))

decimal_last : (n k : ℕ) → k ≡ length (decimal n) → last_digits k n ≡ decimal n
unfolding decimal last_digits
decimal_last zero zero e = absurd (omega arith)
decimal_last zero (suc zero) e = refl
decimal_last zero (suc (suc k)) e = absurd (omega arith)
decimal_last (suc n) k e = digits_last 20 (suc n) k (sym e)

-- a byte set behind what is put in
put_set :
    (s : List ℕ) (at i : ℕ) (a : List ℕ) (d : ℕ) → i ≡ at + length a → i < length s → put (set s i d) at a ≡ put s at (a ++ (d ∷ []))
unfolding put
put_set s at i a d e l =
    rw (take-set-le at s i d (omega arith), append_assoc, size, ← e, tail)
  where
    size : at + length (a ++ (d ∷ [])) ≡ suc i
    size = rw length-append (omega arith)

    tail : drop i (set s i d) ≡ d ∷ drop (suc i) s
    tail =
        rw (drop-cons (set s i d) i 0 (lt-length-set s i d l), get_or-set_same s i d 0 l, drop-set-lt (suc i) s i d (omega arith))

module _ (s : List ℕ) (at : ℕ) where
  pub number_first : (n end : ℕ) → end ≡ at + length (decimal n) → put s at (last_digits (end - at) n) ≡ put s at (decimal n)
  number_first n end e = rw (decimal_last n (end - at) (omega arith))

  pub number_more :
      (i left : ℕ) →
      at < i →
      i ≤ length s →
      put (set s (i - 1) (48 + left % 10)) at (last_digits (i - 1 - at) (left / 10)) ≡ put s at (last_digits (i - at) left)
  unfolding last_digits
  number_more i left l h =
      let one : i - at ≡ suc (i - 1 - at) = omega arith in
      let size : length (last_digits (i - 1 - at) (left / 10)) ≡ i - 1 - at = last_length (i - 1 - at) (left / 10) in
      rw one (put_set s at (i - 1) (last_digits (i - 1 - at) (left / 10)) (48 + left % 10) (omega arith) (omega arith))

  pub number_last : (i left : ℕ) → i ≤ at → put s at (last_digits (i - at) left) ≡ s
  unfolding last_digits
  number_last i left l =
      let none : i - at ≡ 0 = omega arith in
      rw none (put_none s at)

-- ---- a line that is told, by its event

pub begin_event :
    (t w : Bool) (before : List ℕ) (at page best : ℕ) (event same : Event) →
    event ≡ same →
    at + told_length t (event_line page event best) ≤ told_room t w (length before) →
    Telling t w before at (event_line page same best) before at (event_line page same best)
begin_event t w before at page best event same e h = begin t w before at (event_line page same best) (rw e at h)

-- ---- a word that is copied in

pub copied :
    (s : List ℕ) (at k : ℕ) (word piece : List ℕ) →
    k ≡ length word → piece ≡ word → put_mid at k s piece ≡ put s at word
unfolding put
copied s at k word piece e f = rw (e, f, drop-drop (length word) at s)
