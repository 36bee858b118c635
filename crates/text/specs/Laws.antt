-- Laws of the lines: the digits of a number are at least 1 and at most 20, stand for it, and have no zero in front; how long a line is.
-- Assumes nothing.
use Rattle.std.specs.Prelude.{List, [], ◌∷◌, ◌++◌, ◌≡◌, refl, ℕ, zero, suc, ◌+◌, ◌*◌, ◌-◌, ◌/◌, ◌%◌, ◌^◌, ◌≤◌, ◌<◌, length, slice_index_or}
use Rattle.std.proofs.Common.{pow-suc, arith, length-append}
use Rattle.refusals.specs.Numbers.{number}
use Rattle.serve.specs.declared.Event.{Event}
use Rattle.serve.specs.declared.Event.TheVariants.{Hit, Miss, Refused}
use Rattle.text.specs.Text.{digits_to, decimal, then_number, then_entry, event_line, first_line, last_line, refused_line}

-- ---- the digits of a number

pub digits_short : (w n : ℕ) → length (digits_to w n) ≤ w
unfolding digits_to
digits_short zero n = omega arith
digits_short (suc w) zero = omega arith
digits_short (suc w) (suc n) = rw length-append (omega (arith, digits_short w (suc n / 10)))

pub digits_step : (w n : ℕ) → 0 < n → digits_to (suc w) n ≡ digits_to w (n / 10) ++ ((48 + n % 10) ∷ [])
unfolding digits_to
digits_step w zero l = absurd (omega arith)
digits_step w (suc n) l = refl

-- places beyond a number's digits change nothing
pub digits_enough : (w n : ℕ) → n < 10 ^ w → digits_to (suc w) n ≡ digits_to w n
unfolding digits_to
digits_enough zero zero l = refl
digits_enough zero (suc n) l = absurd (omega arith)
digits_enough (suc w) zero l = refl
digits_enough (suc w) (suc n) l =
    let fits : suc n < 10 ^ w * 10 = rw pow-suc at l in
    rw (digits_enough w (suc n / 10) (omega arith))

pub decimal_short : (n : ℕ) → length (decimal n) ≤ 20
unfolding decimal
decimal_short zero = omega arith
decimal_short (suc n) = digits_short 20 (suc n)

pub decimal_some : (n : ℕ) → 1 ≤ length (decimal n)
unfolding decimal digits_to
decimal_some zero = omega arith
decimal_some (suc n) = rw length-append (omega arith)

pub then_number_short : (n : ℕ) → length (then_number n) ≤ 21
unfolding then_number
then_number_short n = omega (arith, decimal_short n)

-- ---- the digits of a number stand for it, and the first is no zero

-- The number that some digits stand for, after others that stand for a number.
unfoldable pub value_of : ℕ → List ℕ → ℕ
value_of before [] = before
value_of before (d ∷ ds) = value_of (before * 10 + (d - 48)) ds

value_more : (before : ℕ) (ds : List ℕ) (d : ℕ) → value_of before (ds ++ (d ∷ [])) ≡ value_of before ds * 10 + (d - 48)
unfolding value_of
value_more before [] d = refl
value_more before (e ∷ ds) d = value_more (before * 10 + (e - 48)) ds d

value_digits : (w n : ℕ) → n < 10 ^ w → value_of 0 (digits_to w n) ≡ n
unfolding digits_to value_of
value_digits zero n l = omega arith
value_digits (suc w) zero l = refl
value_digits (suc w) (suc n) l =
    let fits : suc n < 10 ^ w * 10 = rw pow-suc at l in
    rw (value_more 0 (digits_to w (suc n / 10)) (48 + suc n % 10), value_digits w (suc n / 10) (omega arith)) (omega arith)

pub value_decimal : (n : ℕ) → n ≤ 18446744073709551615 → value_of 0 (decimal n) ≡ n
unfolding decimal value_of
value_decimal zero l = refl
value_decimal (suc n) l = value_digits 20 (suc n) (omega arith)

digits_none : (w n : ℕ) → n < 10 ^ w → length (digits_to w n) ≡ 0 → n ≡ 0
unfolding digits_to
digits_none zero n l e = omega arith
digits_none (suc w) zero l e = refl
digits_none (suc w) (suc n) l e = absurd (omega (arith, simp length-append at e))

digits_some : (w n : ℕ) → 0 < length (digits_to w n) → 0 < n
unfolding digits_to
digits_some zero n l = absurd (omega arith)
digits_some (suc w) zero l = absurd (omega arith)
digits_some (suc w) (suc n) l = omega arith

front_more :
    (ds : List ℕ) (d : ℕ) → (0 < length ds → 49 ≤ slice_index_or ds 0 0) → (length ds ≡ 0 → 49 ≤ d) → 49 ≤ slice_index_or (ds ++ (d ∷ [])) 0 0
front_more [] d f g = g refl
front_more (e ∷ ds) d f g = f (omega arith)

front_digits : (w n : ℕ) → 0 < n → n < 10 ^ w → 49 ≤ slice_index_or (digits_to w n) 0 0
unfolding digits_to
front_digits zero n p l = absurd (omega arith)
front_digits (suc w) zero p l = absurd (omega arith)
front_digits (suc w) (suc n) p l =
    let fits : suc n < 10 ^ w * 10 = rw pow-suc at l in
    front_more
    (digits_to w (suc n / 10))
    (48 + suc n % 10)
    (λ h. front_digits w (suc n / 10) (digits_some w (suc n / 10) h) (omega arith))
    (λ h. omega (arith, digits_none w (suc n / 10) (omega arith) h))

pub front_decimal : (n : ℕ) → 0 < n → n ≤ 18446744073709551615 → 49 ≤ slice_index_or (decimal n) 0 0
unfolding decimal
front_decimal zero p l = absurd (omega arith)
front_decimal (suc n) p l = front_digits 20 (suc n) p (omega arith)

-- ---- a line

pub event_line_short : (page : ℕ) (event : Event) (best : ℕ) → length (event_line page event best) ≤ 100
unfolding event_line
event_line_short page (Hit slot) best =
    simp length-append (omega (arith, then_number_short page, then_number_short slot, then_number_short best))
event_line_short page (Miss slot victim) best =
    simp length-append (omega (arith, then_number_short page, then_number_short slot, then_number_short victim, then_number_short best))
event_line_short page (Refused n) best =
    simp length-append (omega (arith, then_number_short page, then_number_short (number n)))

pub event_line_some : (page : ℕ) (event : Event) (best : ℕ) → 1 ≤ length (event_line page event best)
unfolding event_line
event_line_some page (Hit slot) best = omega arith
event_line_some page (Miss slot victim) best = omega arith
event_line_some page (Refused n) best = omega arith

pub first_line_short : (pages slots requests : ℕ) → length (first_line pages slots requests) ≤ 100
unfolding first_line then_entry
first_line_short pages slots requests =
    simp length-append (omega (arith, then_number_short pages, then_number_short slots, then_number_short requests))

pub last_line_short : (served hits misses best : ℕ) → length (last_line served hits misses best) ≤ 108
unfolding last_line then_entry
last_line_short served hits misses best =
    simp length-append (omega (arith, then_number_short served, then_number_short hits, then_number_short misses, then_number_short best))

pub refused_line_short : (number : ℕ) → length (refused_line number) ≤ 100
unfolding refused_line
refused_line_short number = simp length-append (omega (arith, then_number_short number))

-- `swap 7 2 1023 5` and its end
example : event_line 7 (Miss 2 1023) 5 ≡ 115 ∷ 119 ∷ 97 ∷ 112 ∷ 32 ∷ 55 ∷ 32 ∷ 50 ∷ 32 ∷ 49 ∷ 48 ∷ 50 ∷ 51 ∷ 32 ∷ 53 ∷ 10 ∷ []
unfolding event_line then_number decimal digits_to
example = refl
