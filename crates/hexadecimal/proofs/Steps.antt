-- What a turn of each loop leaves, and a test of the room, in the contracts' words. Assumes nothing.
use mathlib.Core.Bool.{Bool, true, false, ◌&&◌}
use mathlib.Core.List.{List, [], ◌∷◌, ◌++◌, append_assoc}
use mathlib.Core.Path.{◌≡◌, refl, sym, ap, ◌∙◌}
use Prim.Native.Nat.{ℕ, zero, suc, ◌+◌, ◌-◌, ◌*◌, ◌/◌, ◌≤◌, ◌<◌}
use native.Mathlib.Numerals.{add-one}
use native.Mathlib.Omega.{arith}
use borrow.Author.Tests.{leb-true, le-leb, lt-leb, lt-ltb, le-ltb}
use lib.ListN.{length, get_or, set, take}
use lib.Seq.{length-take-le, sets-eq, take_all, take-suc}
use Rattle.std.specs.Prelude.{Option, Some, None, is_some, unwrap_or}
use Rattle.std.specs.List.{list_all}
use Rattle.std.specs.Simd.{first_chunks}
use Rattle.paging.specs.Sets.{◌≤?◌}
use Rattle.paging.specs.Tests.{and_left, and_right}
use Rattle.words.specs.Words.{put}
use Rattle.words.specs.Laws.{put_none, put_then}
use Rattle.hexadecimal.specs.Hex.{value_of, digit_value, digit_of, digits, all_digits, byte_of, bytes_of}
use Rattle.hexadecimal.specs.Laws.{set_put, digits_length, digits_append}

-- ---- the value of a character

module _ (c : ℕ) where
  low_digit : 48 ≤ c → c ≤ 57 → value_of c ≡ c - 48
  unfolding value_of
  low_digit l h = rw (le-ltb _ _ l, le-leb _ _ h)

  high_digit : 97 ≤ c → c ≤ 102 → value_of c ≡ c - 87
  unfolding value_of
  high_digit l h =
      let first : 48 ≤ c = omega arith in
      let second : 57 < c = omega arith in
      rw (le-ltb _ _ first, lt-leb _ _ second, le-ltb _ _ l, le-leb _ _ h)

  no_digit : value_of c ≡ 16 → None ≡ digit_value c
  unfolding digit_value
  no_digit e = rw e

  some_digit : (v : ℕ) → value_of c ≡ v → v ≤ 15 → Some v ≡ digit_value c
  unfolding digit_value
  some_digit v e l = rw (e, le-leb _ _ l)

  pub low_value : 48 ≤ c → c ≤ 57 → Some (c - 48) ≡ digit_value c
  low_value l h = some_digit (c - 48) (low_digit l h) (omega arith)

  pub high_value : 97 ≤ c → c ≤ 102 → Some (c - 97 + 10) ≡ digit_value c
  high_value l h = some_digit (c - 97 + 10) (high_digit l h ∙ omega arith) (omega arith)

  pub before_value : c < 48 → None ≡ digit_value c
  unfolding value_of
  before_value l = no_digit (rw (lt-ltb _ _ l))

  pub between_value : 57 < c → c < 97 → None ≡ digit_value c
  unfolding value_of
  between_value g l =
      let first : 48 ≤ c = omega arith in
      no_digit (rw (le-ltb _ _ first, lt-leb _ _ g, lt-ltb _ _ l))

  pub behind_value : 102 < c → None ≡ digit_value c
  unfolding value_of
  behind_value g =
      let first : 48 ≤ c = omega arith in
      let second : 57 < c = omega arith in
      let third : 97 ≤ c = omega arith in
      no_digit (rw (le-ltb _ _ first, lt-leb _ _ second, le-ltb _ _ third, lt-leb _ _ g))

  pub is_digit : is_some (digit_value c) ≡ (value_of c ≤? 15)
  unfolding digit_value
  is_digit = go (value_of c ≤? 15) refl
    where
      go : (t : Bool) → value_of c ≤? 15 ≡ t → is_some (digit_value c) ≡ (value_of c ≤? 15)
      go true e = rw e
      go false e = rw e

module _ (c : ℕ) (l : value_of c ≤ 15) where
  digit_got : digit_value c ≡ Some (value_of c)
  unfolding digit_value
  digit_got = rw (le-leb _ _ l)

  pub digit_is : {o : Option ℕ} {v : ℕ} → o ≡ digit_value c → v ≡ unwrap_or o 0 → v ≡ value_of c
  digit_is e f = f ∙ rw (e, digit_got)

pub byte_is : (c d : ℕ) {u v : ℕ} → value_of c ≤ 15 → value_of d ≤ 15 → u ≡ value_of c → v ≡ value_of d → 16 * u + v ≡ byte_of c d
unfolding byte_of
byte_is c d l h e f = rw (e, f) (omega arith)

pub each_digit : (w : List ℕ) → list_all (λ c. is_some (digit_value c)) w ≡ all_digits w
unfolding all_digits
each_digit [] = refl
each_digit (c ∷ cs) = rw (is_digit c, each_digit cs)

-- ---- the loop that writes two digits for each byte

pair_put : (s : List ℕ) (at x y : ℕ) → at + 2 ≤ length s → set (set s at x) (at + 1) y ≡ put s at (x ∷ y ∷ [])
unfolding put
pair_put s at x y h = rw (add-one at, ← append_assoc) (sets-eq (x ∷ y ∷ []) s at h)

module _ (s : List ℕ) (at : ℕ) (bytes : List ℕ) where
  next_pair : (i : ℕ) → i < length bytes → digits (take i bytes) ++ (digit_of (get_or bytes i 0 / 16) ∷ digit_of (get_or bytes i 0) ∷ []) ≡ digits (take (i + 1) bytes)
  unfolding digits
  next_pair i l = rw (add-one i, take-suc bytes i 0 l, digits_append)

  pub pairs_first : s ≡ put s at (digits (take 0 bytes))
  unfolding digits
  pairs_first = sym (put_none s at)

  pub pairs_more :
      (i : ℕ) (t : List ℕ) (x y : ℕ) →
      i < length bytes →
      at + 2 * length bytes ≤ length s →
      length t ≡ length s →
      t ≡ put s at (digits (take i bytes)) →
      x ≡ digit_of (get_or bytes i 0 / 16) →
      y ≡ digit_of (get_or bytes i 0) →
      set (set t (at + 2 * i) x) (at + 2 * i + 1) y ≡ put s at (digits (take (i + 1) bytes))
  pairs_more i t x y l h e p ex ey =
      let size : length (take i bytes) ≡ i = length-take-le i bytes (omega arith) in
      let long : length (digits (take i bytes)) ≡ 2 * length (take i bytes) = digits_length (take i bytes) in
      put_then s t (set (set t (at + 2 * i) x) (at + 2 * i + 1) y) at (at + 2 * i) (digits (take i bytes)) (x ∷ y ∷ []) p (pair_put t (at + 2 * i) x y (omega arith)) (omega arith) (omega arith)
      ∙ rw (ex, ey) (ap (put s at) (next_pair i l))

  pub pairs_all : (i : ℕ) (t : List ℕ) → length bytes ≤ i → t ≡ put s at (digits (take i bytes)) → t ≡ put s at (digits bytes)
  pairs_all i t l p = p ∙ rw (take_all i bytes l)

-- ---- the loop that reads them

-- the pairs of a word, as the library cuts it: the digits of each are those of the word, and its byte is that of the word
pub pair_digits :
    (w : List ℕ) (k i : ℕ) →
    i < k →
    2 * k ≤ length w →
    all_digits w ≡ true →
    (value_of (get_or (get_or (first_chunks 2 k w) i []) 0 0) ≤ 15) × (value_of (get_or (get_or (first_chunks 2 k w) i []) 1 0) ≤ 15)
unfolding all_digits
pair_digits [] k i l h e = absurd (omega arith)
pair_digits (c ∷ []) k i l h e = absurd (omega arith)
pair_digits (c ∷ d ∷ cs) zero i l h e = absurd (omega arith)
pair_digits (c ∷ d ∷ cs) (suc k) zero l h e =
    let rest = and_right (value_of c ≤? 15) (value_of d ≤? 15 && all_digits cs) e in
    (leb-true _ _ (and_left (value_of c ≤? 15) (value_of d ≤? 15 && all_digits cs) e), leb-true _ _ (and_left (value_of d ≤? 15) (all_digits cs) rest))
pair_digits (c ∷ d ∷ cs) (suc k) (suc i) l h e =
    let rest = and_right (value_of c ≤? 15) (value_of d ≤? 15 && all_digits cs) e in
    pair_digits cs k i (omega arith) (omega arith) (and_right (value_of d ≤? 15) (all_digits cs) rest)

pub pair_byte :
    (w : List ℕ) (k i : ℕ) →
    i < k →
    2 * k ≤ length w →
    byte_of (get_or (get_or (first_chunks 2 k w) i []) 0 0) (get_or (get_or (first_chunks 2 k w) i []) 1 0) ≡ get_or (bytes_of w) i 0
unfolding bytes_of
pair_byte [] k i l h = absurd (omega arith)
pair_byte (c ∷ []) k i l h = absurd (omega arith)
pair_byte (c ∷ d ∷ cs) zero i l h = absurd (omega arith)
pair_byte (c ∷ d ∷ cs) (suc k) zero l h = refl
pair_byte (c ∷ d ∷ cs) (suc k) (suc i) l h = pair_byte cs k i (omega arith) (omega arith)

pairs_length : (w : List ℕ) → length (bytes_of w) ≡ length w / 2
unfolding bytes_of
pairs_length [] = refl
pairs_length (c ∷ []) = refl
pairs_length (c ∷ d ∷ cs) = omega (arith, pairs_length cs)

module _ (s word : List ℕ) (h : length word / 2 ≤ length s) where
  pub bytes_more :
      (i : ℕ) (t : List ℕ) (d : ℕ) →
      i < length word / 2 →
      length t ≡ length s →
      t ≡ put s 0 (take i (bytes_of word)) →
      d ≡ get_or (bytes_of word) i 0 →
      set t i d ≡ put s 0 (take (i + 1) (bytes_of word))
  bytes_more i t d l same p ed =
      let all = pairs_length word in
      let long : length (take i (bytes_of word)) ≡ i = length-take-le i (bytes_of word) (omega (arith, all)) in
      put_then s t (set t i d) 0 i (take i (bytes_of word)) (d ∷ []) p (set_put t i d (omega arith)) (omega arith) (omega arith)
      ∙ ap (put s 0) (rw (add-one i, take-suc (bytes_of word) i 0 (omega (arith, all)), ed))

  pub bytes_all : (i : ℕ) (t : List ℕ) → length word / 2 ≤ i → t ≡ put s 0 (take i (bytes_of word)) → t ≡ put s 0 (bytes_of word)
  bytes_all i t l p = p ∙ rw (take_all i (bytes_of word) (omega (arith, pairs_length word)))
