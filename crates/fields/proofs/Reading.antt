-- What was read of a word, as a caller sees it: how many bytes or numbers, and that they are the first of the buffer; and
-- whether two texts are the same. Assumes nothing.
use Rattle.std.specs.Prelude.{Bool, ◌&&◌, List, [], ◌∷◌, ◌≡◌, refl, ℕ, ◌+◌, ◌-◌, ◌*◌, ◌/◌, ◌%◌, ◌≤◌, take, drop, Option, Some, None}
use Rattle.std.proofs.Math.Bool.{true, false}
use Rattle.std.proofs.Common.{sym, ap, ◌∙◌}
use native.Mathlib.Omega.{arith}
use borrow.Author.Tests.{eqb-true, eq-eqb, leb-true}
use Rattle.std.proofs.Math.ListN.{length}
use Rattle.std.proofs.Math.Seq.{take_all}
use Rattle.paging.specs.Sets.{◌=?◌, ◌≤?◌}
use Rattle.paging.specs.Tests.{clash, and_left, and_right}
use Rattle.words.specs.Words.{put}
use Rattle.words.specs.Laws.{take_put}
use Rattle.hexadecimal.specs.Hex.{all_digits, bytes_of, readable, count_read, bytes_read}
use Rattle.hexadecimal.specs.Laws.{bytes_length}
use Rattle.fields.specs.Fields.{none_word, bytes_count, bytes_after, bytes_in, parts, numbers_of, list_in, count_of, list_after, same_text}
use Rattle.fields.specs.Reading.{Read}

-- what is put at the start of a buffer are its first entries
pub first_put :
    (s d : List ℕ) {t w : List ℕ} {n : ℕ} → length d ≤ length s → (n ≡ 0 + length d) × (t ≡ put s 0 d) → w ≡ take n t → w ≡ d
first_put s d l p e = e ∙ rw (p.0, p.1) (take_put s 0 d (omega arith))

-- the first entries of a buffer, as a part that is lent
pub part_is : (l : List ℕ) (n : ℕ) → take (n - 0) (drop 0 l) ≡ take n l
part_is l n = let size : n - 0 ≡ n = omega arith in rw size

-- ---- bytes

module _ (w s : List ℕ) where
  bytes_readable : (r : Bool) → readable w s ≡ r → none_word w ≡ false → length w =? 0 ≡ false → Read (bytes_in (length s) w) s (bytes_after w s) (bytes_count w s)
  unfolding Read bytes_in bytes_after bytes_count count_read bytes_read readable
  bytes_readable true e none_is empty_is =
      let pairs : (length w % 2 =? 0) ≡ true = and_left (length w % 2 =? 0) (length w / 2 ≤? length s) (and_left (length w % 2 =? 0 && length w / 2 ≤? length s) (all_digits w) e) in
      let fits : (length w / 2 ≤? length s) ≡ true = and_right (length w % 2 =? 0) (length w / 2 ≤? length s) (and_left (length w % 2 =? 0 && length w / 2 ≤? length s) (all_digits w) e) in
      let even : length w ≡ 2 * (length w / 2) = omega (arith, eqb-true (length w % 2) 0 pairs) in
      let size : length (bytes_of w) ≡ length w / 2 = bytes_length (length w / 2) w even in
      let small : length w / 2 ≤ length s = leb-true (length w / 2) (length s) fits in
      rw (none_is, empty_is, e) (ap Some (sym (first_put s (bytes_of w) {n = length w / 2} (omega (arith, size, small)) (omega (arith, size), refl) refl)), small)
  bytes_readable false e none_is empty_is = rw (none_is, empty_is, e)

  no_bytes : none_word w ≡ true → Read (bytes_in (length s) w) s (bytes_after w s) (bytes_count w s)
  unfolding Read bytes_in bytes_after bytes_count
  no_bytes e = rw e (refl, omega arith)

  empty : none_word w ≡ false → length w =? 0 ≡ true → Read (bytes_in (length s) w) s (bytes_after w s) (bytes_count w s)
  unfolding Read bytes_in bytes_after bytes_count
  empty e f = rw (e, f)

  bytes_told : Read (bytes_in (length s) w) s (bytes_after w s) (bytes_count w s)
  bytes_told = go (none_word w) (length w =? 0) refl refl
    where
      go : (a b : Bool) → none_word w ≡ a → length w =? 0 ≡ b → Read (bytes_in (length s) w) s (bytes_after w s) (bytes_count w s)
      go true b e f = no_bytes e
      go false true e f = empty e f
      go false false e f = bytes_readable (readable w s) refl e f

-- ---- numbers

module _ (w s : List ℕ) where
  abbrev whole : Bool
  whole = length (numbers_of (parts 44 w)) =? length (parts 44 w) && length (parts 44 w) ≤? length s

  no_numbers : none_word w ≡ true → Read (list_in (length s) w) s (list_after w s) (count_of (list_in (length s) w))
  unfolding Read list_in list_after count_of
  no_numbers e = rw e (refl, omega arith)

  numbers : (t : Bool) → whole ≡ t → none_word w ≡ false → Read (list_in (length s) w) s (list_after w s) (count_of (list_in (length s) w))
  unfolding Read list_in list_after count_of
  numbers true e none_is =
      let same : length (numbers_of (parts 44 w)) ≡ length (parts 44 w) = eqb-true _ _ (and_left (length (numbers_of (parts 44 w)) =? length (parts 44 w)) (length (parts 44 w) ≤? length s) e) in
      let fits : length (parts 44 w) ≤ length s = leb-true _ _ (and_right (length (numbers_of (parts 44 w)) =? length (parts 44 w)) (length (parts 44 w) ≤? length s) e) in
      let small : length (numbers_of (parts 44 w)) ≤ length s = omega (arith, same, fits) in
      rw (none_is, e, take_all (length s) (numbers_of (parts 44 w)) small) (ap Some (sym (first_put s (numbers_of (parts 44 w)) {n = length (numbers_of (parts 44 w))} small (omega arith, refl) refl)), small)
  numbers false e none_is = rw (none_is, e)

  list_told : Read (list_in (length s) w) s (list_after w s) (count_of (list_in (length s) w))
  list_told = go (none_word w) refl
    where
      go : (a : Bool) → none_word w ≡ a → Read (list_in (length s) w) s (list_after w s) (count_of (list_in (length s) w))
      go true e = no_numbers e
      go false e = numbers whole refl e

-- ---- what a caller knows after a call that answered so many, or a refusal

module _ (o : Option (List ℕ)) (s last : List ℕ) (r : Option ℕ) (read : Read o s last r) where
  read_some : (n : ℕ) → r ≡ Some n → (o ≡ Some (take n last)) × (n ≤ length s)
  unfolding Read
  read_some n e = rw e at read

  read_none : r ≡ None → o ≡ None
  unfolding Read
  read_none e = rw e at read

module _ (w s : List ℕ) {most : ℕ} {last : List ℕ} {r : Option ℕ} (size : length s ≡ most) where
  module _ (p : (r ≡ bytes_count w s) × (last ≡ bytes_after w s)) where
    bytes_read_is : Read (bytes_in most w) s last r
    bytes_read_is = rw (p.0, p.1, ← size) (bytes_told w s)

    pub some_bytes : {n : ℕ} {x : List ℕ} → r ≡ Some n → x ≡ take n last → bytes_in most w ≡ Some x
    some_bytes {n} e f = (read_some (bytes_in most w) s last r bytes_read_is n e).0 ∙ ap Some (sym f)

    pub bytes_few : {n : ℕ} → r ≡ Some n → n ≤ most
    bytes_few {n} e = rw size at (read_some (bytes_in most w) s last r bytes_read_is n e).1

    pub no_bytes_in : r ≡ None → bytes_in most w ≡ None
    no_bytes_in e = read_none (bytes_in most w) s last r bytes_read_is e

  module _ (p : (r ≡ count_of (list_in (length s) w)) × (last ≡ list_after w s)) where
    list_read_is : Read (list_in most w) s last r
    list_read_is = rw (p.0, p.1, ← size) (list_told w s)

    pub some_numbers : {n : ℕ} {x : List ℕ} → r ≡ Some n → x ≡ take n last → list_in most w ≡ Some x
    some_numbers {n} e f = (read_some (list_in most w) s last r list_read_is n e).0 ∙ ap Some (sym f)

    pub no_numbers_in : r ≡ None → list_in most w ≡ None
    no_numbers_in e = read_none (list_in most w) s last r list_read_is e

-- ---- two texts

same_self : (a : List ℕ) → same_text a a ≡ true
unfolding same_text
same_self [] = refl
same_self (c ∷ cs) = rw (eq-eqb c c refl, same_self cs)

same_is : (a b : List ℕ) → same_text a b ≡ true → a ≡ b
unfolding same_text
same_is [] [] e = refl
same_is [] (d ∷ ds) e = absurd (clash e refl)
same_is (c ∷ cs) [] e = absurd (clash e refl)
same_is (c ∷ cs) (d ∷ ds) e =
    let head : c ≡ d = eqb-true c d (and_left (c =? d) (same_text cs ds) e) in
    let tail : cs ≡ ds = same_is cs ds (and_right (c =? d) (same_text cs ds) e) in
    rw (head, tail)

-- what a comparison promises says which texts are the same
pub same_told : (a b : List ℕ) (r : Bool) → (r ≡ true → a ≡ b) × (a ≡ b → r ≡ true) → r ≡ same_text a b
same_told a b true p = rw (p.0 refl) (sym (same_self b))
same_told a b false p = go (same_text a b) refl
  where
    go : (t : Bool) → same_text a b ≡ t → false ≡ same_text a b
    go true e = p.1 (same_is a b e) ∙ sym e
    go false e = sym e
