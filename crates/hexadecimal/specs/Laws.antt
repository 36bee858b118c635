-- Laws of hexadecimal digits: how many there are, and what is written is read back. Assumes nothing.
use Rattle.std.specs.Prelude.{Bool, true, false, ◌&&◌, List, [], ◌∷◌, ◌++◌, ◌≡◌, refl, ℕ, zero, suc, ◌+◌, ◌*◌, ◌/◌, ◌%◌, ◌≤◌, ◌<◌, set, slice_index_or, if◌then◌else◌, Some, None}
use Rattle.std.proofs.Common.{sym, ap, ◌∙◌, add-one, arith, length-append}
use borrow.Author.Tests.{leb-true, le-leb, lt-leb, le-ltb, lt-ltb, ltb-true, ltb-false, eq-eqb, ne_eqb}
use Rattle.std.proofs.Math.ListN.{length}
use Rattle.std.proofs.lemmas.List.{set_split}
use Rattle.paging.specs.Sets.{◌=?◌, ◌≤?◌, ◌<?◌}
use Rattle.words.specs.Words.{put}
use Rattle.words.specs.Laws.{Bytes, put_length, put_put, put_none}
use Rattle.hexadecimal.specs.Hex.{value_of, digit_of, digits, all_digits, byte_of, bytes_of, readable, count_read, bytes_read}
use Rattle.hexadecimal.specs.Room.{placed, behind, placed_all, behind_all, Wrote}

second_fails : (a b d : Bool) → b ≡ false → (a && b && d) ≡ false
second_fails true b d e = rw e
second_fails false b d e = refl

third_fails : (a b d : Bool) → d ≡ false → (a && b && d) ≡ false
third_fails true true d e = e
third_fails true false d e = refl
third_fails false b d e = refl

pub digits_length : (bs : List ℕ) → length (digits bs) ≡ 2 * length bs
unfolding digits
digits_length [] = refl
digits_length (b ∷ bs) = omega (arith, digits_length bs)

pub digits_append : (xs ys : List ℕ) → digits (xs ++ ys) ≡ digits xs ++ digits ys
unfolding digits
digits_append [] ys = refl
digits_append (x ∷ xs) ys = rw (digits_append xs ys)

pub bytes_length : (n : ℕ) (w : List ℕ) → length w ≡ 2 * n → length (bytes_of w) ≡ n
unfolding bytes_of
bytes_length zero [] e = refl
bytes_length zero (c ∷ cs) e = absurd (omega arith)
bytes_length (suc n) [] e = absurd (omega arith)
bytes_length (suc n) (c ∷ []) e = absurd (omega arith)
bytes_length (suc n) (c ∷ d ∷ cs) e = ap suc (bytes_length n cs (omega arith))

pub bytes_entry : (w : List ℕ) (i : ℕ) → 2 * i + 1 < length w → slice_index_or (bytes_of w) i 0 ≡ byte_of (slice_index_or w (2 * i) 0) (slice_index_or w (2 * i + 1) 0)
unfolding bytes_of
bytes_entry [] i l = absurd (omega arith)
bytes_entry (c ∷ []) i l = absurd (omega arith)
bytes_entry (c ∷ d ∷ cs) zero l = refl
bytes_entry (c ∷ d ∷ cs) (suc i) l =
    let low : 2 * suc i ≡ suc (suc (2 * i)) = omega arith in
    let high : 2 * suc i + 1 ≡ suc (suc (2 * i + 1)) = omega arith in
    rw (high, low) (bytes_entry cs i (omega arith))

-- ---- a word is read or refused

module _ (w s : List ℕ) where
  pub word_refused : readable w s ≡ false → (None ≡ count_read w s) × (s ≡ bytes_read w s)
  unfolding count_read bytes_read
  word_refused e = (rw e, rw e)

  pub word_read : readable w s ≡ true → (Some (length w / 2) ≡ count_read w s) × (put s 0 (bytes_of w) ≡ bytes_read w s)
  unfolding count_read bytes_read
  word_read e = (rw e, rw e)

  pub odd_unreadable : (length w ≡ 2 * (length w / 2) → ⊥) → readable w s ≡ false
  unfolding readable
  odd_unreadable n = rw (ne_eqb (length w % 2) 0 (λ e. n (omega arith)))

  pub long_unreadable : length s < length w / 2 → readable w s ≡ false
  unfolding readable
  long_unreadable l = second_fails (length w % 2 =? 0) (length w / 2 ≤? length s) (all_digits w) (lt-leb _ _ l)

  pub other_unreadable : all_digits w ≡ false → readable w s ≡ false
  unfolding readable
  other_unreadable e = third_fails (length w % 2 =? 0) (length w / 2 ≤? length s) (all_digits w) e

  pub pairs_readable : length w ≡ 2 * (length w / 2) → length w / 2 ≤ length s → all_digits w ≡ true → readable w s ≡ true
  unfolding readable
  pairs_readable e l d = rw (eq-eqb (length w % 2) 0 (omega arith), le-leb _ _ l, d)

-- ---- a number put at its place of a buffer

pub set_put : (s : List ℕ) (i d : ℕ) → i < length s → set s i d ≡ put s i (d ∷ [])
unfolding put
set_put s i d l = rw (add-one i) (set_split s i d l)

-- ---- a text, with room for it or without

module _ {s : List ℕ} {at : ℕ} {text : List ℕ} where
  pub no_room : length s < at + length text → Wrote s at (text ∷ []) at s
  unfolding behind_all placed_all behind placed
  no_room l = record { offset = rw (lt-leb _ _ l); text = rw (lt-leb _ _ l) }

  pub with_room :
      {r : ℕ} {s' : List ℕ} →
      at + length text ≤ length s →
      r ≡ at + length text →
      s' ≡ put s at text →
      Wrote s at (text ∷ []) r s'
  unfolding behind_all placed_all behind placed
  with_room l e p = record { offset = rw (le-leb _ _ l) e; text = rw (le-leb _ _ l) p }

-- ---- texts one behind the other

pub none_wrote : {s : List ℕ} {at : ℕ} → Wrote s at [] at s
unfolding behind_all placed_all
none_wrote = record { offset = refl; text = refl }

behind_append :
    (s : List ℕ) (at : ℕ) (xs ys : List (List ℕ)) →
    behind_all s at (xs ++ ys) ≡ behind_all (placed_all s at xs) (behind_all s at xs) ys
unfolding behind_all placed_all
behind_append s at [] ys = refl
behind_append s at (x ∷ xs) ys = behind_append (placed s at x) (behind s at x) xs ys

placed_append :
    (s : List ℕ) (at : ℕ) (xs ys : List (List ℕ)) →
    placed_all s at (xs ++ ys) ≡ placed_all (placed_all s at xs) (behind_all s at xs) ys
unfolding behind_all placed_all
placed_append s at [] ys = refl
placed_append s at (x ∷ xs) ys = placed_append (placed s at x) (behind s at x) xs ys

module _ {s : List ℕ} {at : ℕ} {xs : List (List ℕ)} {r : ℕ} {s' : List ℕ} where
  pub wrote_then : {ys : List (List ℕ)} {end : ℕ} {s'' : List ℕ} → Wrote s at xs r s' → Wrote s' r ys end s'' → Wrote s at (xs ++ ys) end s''
  wrote_then {ys} p q =
      record {
        offset = q.offset ∙ rw (p.offset, p.text) (sym (behind_append s at xs ys));
        text = q.text ∙ rw (p.offset, p.text) (sym (placed_append s at xs ys));
      }

  -- the same texts by another name
  pub wrote_as : {ys : List (List ℕ)} → ys ≡ xs → Wrote s at xs r s' → Wrote s at ys r s'
  wrote_as e p = rw e p

  -- two writers of the same texts answer and leave the same
  pub wrote_once : {end : ℕ} {s'' : List ℕ} → Wrote s at xs r s' → Wrote s at xs end s'' → (r ≡ end) × (s' ≡ s'')
  wrote_once p q = (p.offset ∙ sym q.offset, p.text ∙ sym q.text)

placed_length : (s : List ℕ) (at : ℕ) (text : List ℕ) → length (placed s at text) ≡ length s
unfolding placed
placed_length s at text = go (at + length text ≤? length s) refl
  where
    go : (t : Bool) → at + length text ≤? length s ≡ t → length (if at + length text ≤? length s then put s at text else s) ≡ length s
    go true e = rw e (put_length s at text (leb-true (at + length text) (length s) e))
    go false e = rw e

-- Writing texts leaves a buffer as long as it was.
pub placed_all_length : (s : List ℕ) (at : ℕ) (texts : List (List ℕ)) → length (placed_all s at texts) ≡ length s
unfolding placed_all
placed_all_length s at [] = refl
placed_all_length s at (t ∷ ts) =
    placed_all_length (placed s at t) (behind s at t) ts ∙ placed_length s at t

-- All the texts together.
unfoldable pub all_text : List (List ℕ) → List ℕ
all_text [] = []
all_text (t ∷ ts) = t ++ all_text ts

-- With room for all of them they stand one behind the other, and nothing else changes.
pub all_placed :
    (s : List ℕ) (at : ℕ) (texts : List (List ℕ)) →
    at + length (all_text texts) ≤ length s →
    (behind_all s at texts ≡ at + length (all_text texts)) × (placed_all s at texts ≡ put s at (all_text texts))
unfolding behind_all placed_all behind placed all_text
all_placed s at [] l = (omega arith, sym (put_none s at))
all_placed s at (t ∷ ts) l =
    let size = length-append t (all_text ts) in
    let fits : at + length t ≤ length s = omega (arith, size) in
    let rest = all_placed (put s at t) (at + length t) ts (omega (arith, size, put_length s at t fits)) in
    rw (le-leb _ _ fits) (rest.0 ∙ omega (arith, size), rest.1 ∙ put_put s at t (all_text ts) fits)

-- ---- what is written is read back

value_low : (n : ℕ) → n < 10 → value_of (48 + n) ≡ n
unfolding value_of
value_low n l =
    let from : 48 ≤ 48 + n = omega arith in
    let to : 48 + n ≤ 57 = omega arith in
    rw (le-ltb (48 + n) 48 from, le-leb (48 + n) 57 to) (omega arith)

value_high : (n : ℕ) → 10 ≤ n → n < 16 → value_of (87 + n) ≡ n
unfolding value_of
value_high n g l =
    let first : 48 ≤ 87 + n = omega arith in
    let second : 57 < 87 + n = omega arith in
    let from : 97 ≤ 87 + n = omega arith in
    let to : 87 + n ≤ 102 = omega arith in
    rw (le-ltb (87 + n) 48 first, lt-leb (87 + n) 57 second, le-ltb (87 + n) 97 from, le-leb (87 + n) 102 to) (omega arith)

digit_low : (v : ℕ) → v % 16 < 10 → digit_of v ≡ 48 + v % 16
unfolding digit_of
digit_low v l = rw (lt-ltb (v % 16) 10 l)

digit_high : (v : ℕ) → 10 ≤ v % 16 → digit_of v ≡ 87 + v % 16
unfolding digit_of
digit_high v l = rw (le-ltb (v % 16) 10 l)

pub value_digit : (v : ℕ) → value_of (digit_of v) ≡ v % 16
value_digit v = go (v % 16 <? 10) refl
  where
    go : (t : Bool) → v % 16 <? 10 ≡ t → value_of (digit_of v) ≡ v % 16
    go true e =
        let l : v % 16 < 10 = ltb-true (v % 16) 10 e in
        ap value_of (digit_low v l) ∙ value_low (v % 16) l
    go false e =
        let l : 10 ≤ v % 16 = ltb-false (v % 16) 10 e in
        ap value_of (digit_high v l) ∙ value_high (v % 16) l (omega arith)

byte_back : (b : ℕ) → b ≤ 255 → byte_of (digit_of (b / 16)) (digit_of b) ≡ b
unfolding byte_of
byte_back b l = rw (value_digit (b / 16), value_digit b) (omega arith)

pub bytes_back : (bs : List ℕ) → Bytes bs → bytes_of (digits bs) ≡ bs
unfolding bytes_of digits
bytes_back [] h = refl
bytes_back (b ∷ bs) h =
    rw (byte_back b (h.at 0 (omega arith)), bytes_back bs (record { at = λ i l. h.at (suc i) (omega arith) }))

pub digits_right : (bs : List ℕ) → all_digits (digits bs) ≡ true
unfolding all_digits digits
digits_right [] = refl
digits_right (b ∷ bs) =
    let high : value_of (digit_of (b / 16)) ≤ 15 = omega (arith, value_digit (b / 16)) in
    let low : value_of (digit_of b) ≤ 15 = omega (arith, value_digit b) in
    rw (le-leb (value_of (digit_of (b / 16))) 15 high, le-leb (value_of (digit_of b)) 15 low, digits_right bs)
