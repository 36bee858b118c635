-- What a turn of each loop leaves, in the contracts' words. Assumes nothing.
use mathlib.Core.Bool.{Bool, true, false, ◌&&◌}
use mathlib.Core.List.{List, [], ◌∷◌}
use mathlib.Core.Path.{◌≡◌, refl, sym, ap, ◌∙◌}
use Prim.Native.Nat.{ℕ, zero, suc, ◌+◌, ◌-◌, ◌*◌, ◌≤◌, ◌<◌}
use native.Mathlib.Numerals.{add-one}
use native.Mathlib.Omega.{arith}
use borrow.Author.Tests.{ltb-false, leb-true, eqb-true, le-leb, lt-leb, eq-eqb, ne_eqb}
use mir.Val.{bool_byte}
use lib.ListN.{length, get_or, take, drop, drop_of_length-le}
use lib.Seq.{drop-cons, drop-drop}
use borrow.Rule.Slice.PartMut.{put_mid}
use Rattle.std.specs.Prelude.{Option, Some, None, cond, nat_lt, position, unwrap_or}
use Rattle.std.specs.List.{position_or_len}
use Rattle.std.proofs.lemmas.List.Sums.{prefix_len-le-length}
use Rattle.std.proofs.lemmas.Option.{none-some}
use Rattle.std.proofs.lemmas.List.Recursion.{is_position_or_len}
use Rattle.paging.specs.Sets.{◌≤?◌, ◌=?◌, bit}
use Rattle.paging.specs.Tests.{clash, and_left, and_right}
use Rattle.words.specs.Words.{put}
use Rattle.text.specs.Laws.{value_of}
use Rattle.hexadecimal.specs.Hex.{digits, count_read, bytes_read}
use Rattle.fields.specs.Fields.{before, word_of, separators, decimal_value, all_decimal, number_from, number_of, none_word, bytes_count, bytes_after, bytes_word}

-- ---- what stands before a separator, and how many there are, as the library counts them

module _ (x : ℕ) where
  before_more : (c : ℕ) (cs : List ℕ) → before x (c ∷ cs) ≡ cond (c =? x) 0 (1 + before x cs)
  unfolding before
  before_more c cs = go (c =? x) refl
    where
      go : (t : Bool) → c =? x ≡ t → before x (c ∷ cs) ≡ cond (c =? x) 0 (1 + before x cs)
      go true e = rw e
      go false e = rw e (omega arith)

  first_is : (w : List ℕ) → before x w ≡ position_or_len (λ c. c =? x) w
  unfolding before
  first_is = is_position_or_len (before x) (λ c. c =? x) refl before_more

  -- the first place, or the length, is what `before` counts
  pub before_is : (w : List ℕ) → unwrap_or (position (λ c. c =? x) w) (length w) ≡ before x w
  before_is w = go (nat_lt (position_or_len (λ c. c =? x) w) (length w)) refl ∙ sym (first_is w)
    where
      within : position_or_len (λ c. c =? x) w ≤ length w
      within = prefix_len-le-length _ w

      go :
          (t : Bool) →
          nat_lt (position_or_len (λ c. c =? x) w) (length w) ≡ t →
          unwrap_or (position (λ c. c =? x) w) (length w) ≡ position_or_len (λ c. c =? x) w
      go true e = rw e
      go false e = rw e (omega (arith, within, ltb-false (position_or_len (λ c. c =? x) w) (length w) e))

  pub before_end : (w : List ℕ) (i : ℕ) → length w ≤ i → before x (drop i w) ≡ 0
  unfolding before
  before_end w i l = rw (drop_of_length-le w {i = i} l)

  -- what is left holds the separators that the next place and all behind it hold; at the end there are none
  pub separators_next : (w : List ℕ) (i : ℕ) → i < length w → separators x (drop i w) ≡ bit (get_or w i 0 =? x) + separators x (drop (i + 1) w)
  unfolding separators
  separators_next w i l = rw (add-one i, drop-cons w i 0 l)

  pub separators_end : (w : List ℕ) (i : ℕ) → length w ≤ i → separators x (drop i w) ≡ 0
  unfolding separators
  separators_end w i l = rw (drop_of_length-le w {i = i} l)

-- a truth value as a number, as the library makes it
pub byte_bit : (b : Bool) → bool_byte b ≡ bit b
byte_bit true = refl
byte_bit false = refl

-- ---- the loop that passes over words

word_none : (n : ℕ) → word_of n [] ≡ []
unfolding word_of before
word_none zero = refl
word_none (suc n) = word_none n

module _ (line : List ℕ) (from end : ℕ) (e : end ≡ from + before 32 (drop from line)) where
  word_later : (n : ℕ) → word_of (suc n) (drop from line) ≡ word_of n (drop (end + 1) line)
  unfolding word_of
  word_later n =
      let next : from + suc (before 32 (drop from line)) ≡ end + 1 = omega arith in
      rw (drop-drop, next)

  pub word_here : take (end - from) (drop from line) ≡ word_of 0 (drop from line)
  unfolding word_of
  word_here =
      let size : end - from ≡ before 32 (drop from line) = omega arith in
      rw size

  pub word_next : (left : ℕ) → 0 < left → word_of (left - 1) (drop (end + 1) line) ≡ word_of left (drop from line)
  word_next zero l = absurd (omega arith)
  word_next (suc n) l =
      let less : suc n - 1 ≡ n = omega arith in
      rw less (sym (word_later n))

  pub word_past : (left : ℕ) → 0 < left → length line ≤ end → word_of 0 (drop (length line) line) ≡ word_of left (drop from line)
  word_past zero l h = absurd (omega arith)
  word_past (suc n) l h =
      let past : length line ≤ end + 1 = omega arith in
      let all : length line ≤ length line = omega arith in
      ap (word_of 0) (drop_of_length-le line {i = length line} all)
      ∙ word_none 0
      ∙ sym (word_later n ∙ ap (word_of n) (drop_of_length-le line {i = end + 1} past) ∙ word_none n)

-- ---- the loop that reads a number

value_grows : (n : ℕ) (cs : List ℕ) → n ≤ value_of n cs
unfolding value_of
value_grows n [] = omega arith
value_grows n (c ∷ cs) = omega (arith, value_grows (n * 10 + (c - 48)) cs)

pub number_none : (most : ℕ) (w : List ℕ) → length w ≡ 0 → number_of most w ≡ None
unfolding number_of
number_none most [] e = refl
number_none most (c ∷ cs) e = absurd (omega arith)

-- the value of a character

and_regroup : (a b d : Bool) → ((a && b) && d) ≡ (a && b && d)
and_regroup true b d = refl
and_regroup false b d = refl

abbrev is_decimal : ℕ → Bool
is_decimal c = 48 ≤? c && c ≤? 57

module _ (c : ℕ) where
  pub value_here : {d : ℕ} → 48 ≤ c → c ≤ 57 → d ≡ c - 48 → Some d ≡ decimal_value c
  unfolding decimal_value
  value_here l h e = rw (e, le-leb _ _ l, le-leb _ _ h)

  pub value_low : c < 48 → None ≡ decimal_value c
  unfolding decimal_value
  value_low l = rw (lt-leb _ _ l)

  pub value_high : 57 < c → None ≡ decimal_value c
  unfolding decimal_value
  value_high g =
      let from : 48 ≤ c = omega arith in
      rw (le-leb _ _ from, lt-leb _ _ g)

  value_some : {d : ℕ} → Some d ≡ decimal_value c → (is_decimal c ≡ true) × (d ≡ c - 48)
  unfolding decimal_value
  value_some {d} e = go (is_decimal c) refl e
    where
      go : (t : Bool) → is_decimal c ≡ t → Some d ≡ decimal_value c → (is_decimal c ≡ true) × (d ≡ c - 48)
      go true t f =
          let same : Some d ≡ Some (c - 48) = f ∙ rw t in
          (t, ap (λ o. unwrap_or o 0) same)
      go false t f = absurd (none-some d (sym (f ∙ rw t)))

  value_none : None ≡ decimal_value c → is_decimal c ≡ false
  unfolding decimal_value
  value_none e = go (is_decimal c) refl e
    where
      go : (t : Bool) → is_decimal c ≡ t → None ≡ decimal_value c → is_decimal c ≡ false
      go true t f = absurd (none-some (c - 48) (f ∙ rw t))
      go false t f = t

  pub value_most : {d : ℕ} → Some d ≡ decimal_value c → d ≤ 9
  value_most e =
      let all = value_some e in
      let high : c ≤ 57 = leb-true _ _ (and_right (48 ≤? c) (c ≤? 57) all.0) in
      omega (arith, all.1, high)

module _ (most n : ℕ) (w : List ℕ) (i : ℕ) where
  pub digit_wrong : i < length w → None ≡ decimal_value (get_or w i 0) → number_from most n (drop i w) ≡ None
  unfolding number_from all_decimal
  digit_wrong l e = rw (drop-cons w i 0 l, wrong (get_or w i 0) (all_decimal (drop (suc i) w)) (value_none (get_or w i 0) e))
    where
      wrong : (c : ℕ) (b : Bool) → is_decimal c ≡ false → (48 ≤? c && c ≤? 57 && b) ≡ false
      wrong c b e = sym (and_regroup (48 ≤? c) (c ≤? 57) b) ∙ rw e

  pub digit_more :
      {d : ℕ} →
      i < length w →
      Some d ≡ decimal_value (get_or w i 0) →
      number_from most n (drop i w) ≡ number_from most (n * 10 + d) (drop (i + 1) w)
  unfolding number_from all_decimal value_of
  digit_more l e =
      let all = value_some (get_or w i 0) e in
      let from = and_left (48 ≤? get_or w i 0) (get_or w i 0 ≤? 57) all.0 in
      let to = and_right (48 ≤? get_or w i 0) (get_or w i 0 ≤? 57) all.0 in
      rw (add-one i, drop-cons w i 0 l, from, to, all.1)

  pub number_end : length w ≤ i → n ≤ most → number_from most n (drop i w) ≡ Some n
  unfolding number_from all_decimal value_of
  number_end l h = rw (drop_of_length-le w {i = i} l, le-leb _ _ h)

pub and_fails : (a b : Bool) → b ≡ false → (a && b) ≡ false
and_fails true b e = e
and_fails false b e = refl

pub number_large : (most n : ℕ) (cs : List ℕ) → most < n → number_from most n cs ≡ None
unfolding number_from
number_large most n cs h =
    let more : most < value_of n cs = omega (arith, value_grows n cs) in
    rw (and_fails (all_decimal cs) (value_of n cs ≤? most) (lt-leb (value_of n cs) most more))

-- ---- a word copied to its place, as the library has it

pub copied : (s : List ℕ) (at : ℕ) (word last : List ℕ) → last ≡ word → put_mid at (at + length word - at) s last ≡ put s at word
unfolding put
copied s at word last e =
    let size : at + length word - at ≡ length word = omega arith in
    rw (e, size, drop-drop)

-- ---- bytes, or none

module _ (w : List ℕ) where
  pub none_longer : (length w ≡ 1 → ⊥) → false ≡ none_word w
  unfolding none_word
  none_longer n = rw (ne_eqb (length w) 1 n)

  pub one_dash : length w ≡ 1 → get_or w 0 0 ≡ 45 → true ≡ none_word w
  unfolding none_word
  one_dash e f = rw (eq-eqb (length w) 1 e, eq-eqb (get_or w 0 0) 45 f)

  pub one_other : length w ≡ 1 → (get_or w 0 0 ≡ 45 → ⊥) → false ≡ none_word w
  unfolding none_word
  one_other e n = rw (eq-eqb (length w) 1 e, ne_eqb (get_or w 0 0) 45 n)

module _ (w s : List ℕ) where
  pub bytes_none : none_word w ≡ true → (Some 0 ≡ bytes_count w s) × (s ≡ bytes_after w s)
  unfolding bytes_count bytes_after
  bytes_none e = (rw e, rw e)

  pub bytes_empty : none_word w ≡ false → length w ≡ 0 → (None ≡ bytes_count w s) × (s ≡ bytes_after w s)
  unfolding bytes_count bytes_after
  bytes_empty e z = (rw (e, eq-eqb (length w) 0 z), rw (e, eq-eqb (length w) 0 z))

  pub bytes_some :
      (r : Option ℕ) (last : List ℕ) →
      none_word w ≡ false →
      (length w ≡ 0 → ⊥) →
      (r ≡ count_read w s) × (last ≡ bytes_read w s) →
      (r ≡ bytes_count w s) × (last ≡ bytes_after w s)
  unfolding bytes_count bytes_after
  bytes_some r last e n p = (rw (e, ne_eqb (length w) 0 n) p.0, rw (e, ne_eqb (length w) 0 n) p.1)

-- what a test for emptiness tells
pub is_nothing : {n : ℕ} {r : Bool} → r ≡ (n =? 0) → r ≡ true → n ≡ 0
is_nothing {n} e t = eqb-true n 0 (sym e ∙ t)

pub is_something : {n : ℕ} {r : Bool} → r ≡ (n =? 0) → r ≡ false → n ≡ 0 → ⊥
is_something {n} e f z = clash (e ∙ eq-eqb n 0 z) f

pub word_empty : (bs : List ℕ) → length bs ≡ 0 → bytes_word bs ∷ [] ≡ (45 ∷ []) ∷ []
unfolding bytes_word
word_empty [] e = refl
word_empty (b ∷ bs) e = absurd (omega arith)

pub word_some : (bs : List ℕ) → (length bs ≡ 0 → ⊥) → bytes_word bs ∷ [] ≡ digits bs ∷ []
unfolding bytes_word
word_some [] n = absurd (n refl)
word_some (b ∷ bs) n = refl
