-- Laws of numbers in bytes, of any width: how long, written and read back, read and written back, sections side by side, bytes put in.
-- Assumes nothing.
use Rattle.std.specs.Prelude.{List, [], ◌∷◌, ◌++◌, ◌≡◌, refl, ℕ, zero, suc, ◌+◌, ◌*◌, ◌/◌, ◌%◌, ◌^◌, ◌≤◌, ◌<◌, take, drop, slice_index_or}
use Rattle.std.proofs.Common.{append_assoc, append-nil, sym, ap, ◌∙◌, add-zero, add_comm, add_assoc, suc-add, mul-zero, mul-suc, mul_right_comm, pow-suc, arith, length-append, length-drop, take-append-drop, drop_of_length-le, take-add, take_at, drop_at, drop-drop, length-take-le, ext_get_or}
use Rattle.std.proofs.Math.ListN.{length, length-take}
use Rattle.std.proofs.Math.Seq.{drop-append-add}
use Rattle.paging.specs.Sets.{listed}
use Rattle.paging.specs.Tables.{listed_length, listed_same, listed_entry}
use Rattle.words.specs.Words.{bytes, number, words, word_at, put}

-- ---- how many bytes

pub bytes_length : (w v : ℕ) → length (bytes w v) ≡ w
unfolding bytes
bytes_length zero v = refl
bytes_length (suc w) v = ap suc (bytes_length w (v / 256))

pub words_length : (w : ℕ) (vs : List ℕ) → length (words w vs) ≡ w * length vs
unfolding words
words_length w [] = sym (mul-zero w)
words_length w (v ∷ vs) =
    rw (length-append, bytes_length w v, words_length w vs, mul-suc) (add_comm w (w * length vs))

-- ---- every element is a byte, as in a `&[u8]`

pub record Bytes (bs : List ℕ) : Type 0 where
  pub at : (i : ℕ) → i < length bs → slice_index_or bs i 0 ≤ 255

pub no_bytes : Bytes []
no_bytes = record { at = λ i l. absurd (omega arith) }

pub cons_bytes : (b : ℕ) (bs : List ℕ) → b ≤ 255 → Bytes bs → Bytes (b ∷ bs)
cons_bytes b bs h r = record { at = go }
  where
    go : (i : ℕ) → i < suc (length bs) → slice_index_or (b ∷ bs) i 0 ≤ 255
    go zero l = h
    go (suc i) l = r.at i (omega arith)

first_byte : (b : ℕ) (bs : List ℕ) → Bytes (b ∷ bs) → b ≤ 255
first_byte b bs h = h.at 0 (omega arith)

rest_bytes : (b : ℕ) (bs : List ℕ) → Bytes (b ∷ bs) → Bytes bs
rest_bytes b bs h = record { at = λ i l. h.at (suc i) (omega arith) }

pub append_bytes : (xs ys : List ℕ) → Bytes xs → Bytes ys → Bytes (xs ++ ys)
append_bytes [] ys h g = g
append_bytes (x ∷ xs) ys h g =
    cons_bytes x (xs ++ ys) (first_byte x xs h) (append_bytes xs ys (rest_bytes x xs h) g)

pub take_bytes : (n : ℕ) (bs : List ℕ) → Bytes bs → Bytes (take n bs)
take_bytes zero bs h = no_bytes
take_bytes (suc n) [] h = no_bytes
take_bytes (suc n) (b ∷ bs) h = cons_bytes b (take n bs) (first_byte b bs h) (take_bytes n bs (rest_bytes b bs h))

pub drop_bytes : (n : ℕ) (bs : List ℕ) → Bytes bs → Bytes (drop n bs)
drop_bytes zero bs h = h
drop_bytes (suc n) [] h = no_bytes
drop_bytes (suc n) (b ∷ bs) h = drop_bytes n bs (rest_bytes b bs h)

pub bytes_bytes : (w v : ℕ) → Bytes (bytes w v)
unfolding bytes
bytes_bytes zero v = no_bytes
bytes_bytes (suc w) v = cons_bytes (v % 256) (bytes w (v / 256)) (omega arith) (bytes_bytes w (v / 256))

pub words_bytes : (w : ℕ) (vs : List ℕ) → Bytes (words w vs)
unfolding words
words_bytes w [] = no_bytes
words_bytes w (v ∷ vs) = append_bytes (bytes w v) (words w vs) (bytes_bytes w v) (words_bytes w vs)

-- ---- written and read back, read and written back

pub number_bytes : (w v : ℕ) → v < 256 ^ w → number (bytes w v) ≡ v
unfolding bytes number
number_bytes zero v h = omega arith
number_bytes (suc w) v h =
    let fits : v < 256 ^ w * 256 = rw pow-suc at h in
    let back : number (bytes w (v / 256)) ≡ v / 256 = number_bytes w (v / 256) (omega arith) in
    omega arith

pub number_bytes_2 : (v : ℕ) → v ≤ 65535 → number (bytes 2 v) ≡ v
number_bytes_2 v h = number_bytes 2 v (omega arith)

pub number_bytes_4 : (v : ℕ) → v ≤ 4294967295 → number (bytes 4 v) ≡ v
number_bytes_4 v h = number_bytes 4 v (omega arith)

pub bytes_number : (w : ℕ) (bs : List ℕ) → length bs ≡ w → Bytes bs → bytes w (number bs) ≡ bs
unfolding bytes number
bytes_number zero [] e h = refl
bytes_number zero (b ∷ bs) e h = absurd (omega arith)
bytes_number (suc w) [] e h = absurd (omega arith)
bytes_number (suc w) (b ∷ bs) e h =
    let small : b ≤ 255 = first_byte b bs h in
    let low : (b + 256 * number bs) % 256 ≡ b = omega arith in
    let high : (b + 256 * number bs) / 256 ≡ number bs = omega arith in
    rw (low, high, bytes_number w bs (omega arith) (rest_bytes b bs h))

pub number_below : (bs : List ℕ) → Bytes bs → number bs < 256 ^ length bs
unfolding number
number_below [] h = omega arith
number_below (b ∷ bs) h =
    let small : b ≤ 255 = first_byte b bs h in
    let rest : number bs < 256 ^ length bs = number_below bs (rest_bytes b bs h) in
    rw pow-suc (omega arith)

-- ---- a number in two parts, and a list in two parts

pub number_append : (xs ys : List ℕ) → number (xs ++ ys) ≡ number xs + 256 ^ length xs * number ys
unfolding number
number_append [] ys = omega arith
number_append (x ∷ xs) ys =
    rw (pow-suc, mul_right_comm (256 ^ length xs) 256 (number ys), number_append xs ys) (omega arith)

pub bytes_append : (w u low high : ℕ) → low < 256 ^ w → bytes (w + u) (low + 256 ^ w * high) ≡ bytes w low ++ bytes u high
unfolding bytes
bytes_append zero u low high h =
    let size : zero + u ≡ u = omega arith in
    let same : low + 1 * high ≡ high = omega arith in
    rw (size, same)
bytes_append (suc w) u low high h =
    let fits : low < 256 ^ w * 256 = rw pow-suc at h in
    let part : 256 ^ suc w * high ≡ 256 ^ w * high * 256 = rw pow-suc (mul_right_comm (256 ^ w) 256 high) in
    let byte : (low + 256 ^ suc w * high) % 256 ≡ low % 256 = omega arith in
    let rest : (low + 256 ^ suc w * high) / 256 ≡ low / 256 + 256 ^ w * high = omega arith in
    rw (suc-add, byte, rest, bytes_append w u (low / 256) high (omega arith))

pub words_append : (w : ℕ) (us vs : List ℕ) → words w (us ++ vs) ≡ words w us ++ words w vs
unfolding words
words_append w [] vs = refl
words_append w (u ∷ us) vs = rw (words_append w us vs) (sym (append_assoc (bytes w u) (words w us) (words w vs)))

pub words_one : (w v : ℕ) → words w (v ∷ []) ≡ bytes w v
unfolding words
words_one w v = append-nil (bytes w v)

pub word_at_add :
    (w u : ℕ) (s : List ℕ) (at : ℕ) → at + w ≤ length s → word_at (w + u) s at ≡ word_at w s at + 256 ^ w * word_at u s (at + w)
unfolding word_at
word_at_add w u s at h =
    let size : length (take w (drop at s)) ≡ w = simp (length-take, length-drop) (omega arith) in
    rw (take-add, number_append, size, drop-drop)

-- ---- a number or a list among other sections

pub word_at_append :
    (w v : ℕ) (xs ys : List ℕ) (at : ℕ) → length xs ≡ at → word_at w (xs ++ (bytes w v ++ ys)) at ≡ number (bytes w v)
unfolding word_at
word_at_append w v xs ys at e =
    rw (drop_at xs (bytes w v ++ ys) at e, take_at (bytes w v) ys w (bytes_length w v))

entry_bytes : (w : ℕ) (vs ys : List ℕ) (i : ℕ) → i < length vs → take w (drop (w * i) (words w vs ++ ys)) ≡ bytes w (slice_index_or vs i 0)
unfolding words
entry_bytes w [] ys i l = absurd (omega arith)
entry_bytes w (v ∷ vs) ys zero l =
    rw (mul-zero, append_assoc, take_at (bytes w v) (words w vs ++ ys) w (bytes_length w v))
entry_bytes w (v ∷ vs) ys (suc i) l =
    let next : w * suc i ≡ length (bytes w v) + w * i = mul-suc w i ∙ rw (bytes_length w v) (add_comm (w * i) w) in
    rw (next, append_assoc, drop-append-add) (entry_bytes w vs ys i (omega arith))

module _ (w : ℕ) (vs xs ys : List ℕ) (at : ℕ) (e : length xs ≡ at) where
  pub word_at_words : (i : ℕ) → i < length vs → word_at w (xs ++ (words w vs ++ ys)) (at + w * i) ≡ number (bytes w (slice_index_or vs i 0))
  unfolding word_at
  word_at_words i l = rw (← e, drop-append-add) (ap number (entry_bytes w vs ys i l))

  -- a list is written and read back
  pub listed_words :
      ((i : ℕ) → i < length vs → slice_index_or vs i 0 < 256 ^ w) →
      listed (length vs) (λ i. word_at w (xs ++ (words w vs ++ ys)) (at + w * i)) ≡ vs
  listed_words fits =
      ext_get_or 0 (listed (length vs) entry) vs size (λ i l. same i (rw size at l))
    where
      entry : ℕ → ℕ
      entry i = word_at w (xs ++ (words w vs ++ ys)) (at + w * i)

      size : length (listed (length vs) entry) ≡ length vs
      size = listed_length (length vs) entry

      same : (i : ℕ) → i < length vs → slice_index_or (listed (length vs) entry) i 0 ≡ slice_index_or vs i 0
      same i l = listed_entry (length vs) entry 0 i l ∙ word_at_words i l ∙ number_bytes w (slice_index_or vs i 0) (fits i l)

-- ---- a section read entry by entry, and written again

pub bytes_word_at : (w : ℕ) (s : List ℕ) (at : ℕ) → at + w ≤ length s → Bytes s → bytes w (word_at w s at) ≡ take w (drop at s)
unfolding word_at
bytes_word_at w s at l h =
    bytes_number
    w
    (take w (drop at s))
    (simp (length-take, length-drop) (omega arith))
    (take_bytes w (drop at s) (drop_bytes at s h))

pub words_word_at :
    (w n : ℕ) (s : List ℕ) (at : ℕ) →
    at + w * n ≤ length s →
    Bytes s →
    words w (listed n (λ i. word_at w s (at + w * i))) ≡ take (w * n) (drop at s)
unfolding words listed
words_word_at w zero s at l h = rw mul-zero
words_word_at w (suc n) s at l h =
    let size : w * suc n ≡ w + w * n = mul-suc w n ∙ add_comm (w * n) w in
    let rest = words_word_at w n s (at + w) (omega arith) h in
    let both = take-add w (w * n) (drop at s) in
    rw (mul-zero, add-zero, bytes_word_at w s at (omega arith) h, later, rest, size, both, drop-drop)
  where
    next : (i : ℕ) → word_at w s (at + w * suc i) ≡ word_at w s (at + w + w * i)
    next i = ap (word_at w s) (rw mul-suc (omega arith))

    later : listed n (λ i. word_at w s (at + w * suc i)) ≡ listed n (λ i. word_at w s (at + w + w * i))
    later = listed_same n (λ i. word_at w s (at + w * suc i)) (λ i. word_at w s (at + w + w * i)) (λ i li. next i)

-- ---- bytes put in at an offset

module _ (s : List ℕ) (at : ℕ) (new : List ℕ) (fits : at + length new ≤ length s) where
  head_length : length (take at s ++ new) ≡ at + length new
  head_length = rw (length-append, length-take-le at s (omega arith))

  pub take_put : take (at + length new) (put s at new) ≡ take at s ++ new
  unfolding put
  take_put = rw (← append_assoc) (take_at (take at s ++ new) (drop (at + length new) s) (at + length new) head_length)

  pub drop_put : drop (at + length new) (put s at new) ≡ drop (at + length new) s
  unfolding put
  drop_put = rw (← append_assoc) (drop_at (take at s ++ new) (drop (at + length new) s) (at + length new) head_length)

  pub put_length : length (put s at new) ≡ length s
  unfolding put
  put_length = simp (length-append, length-take, length-drop) (omega arith)

put_next :
    (s t : List ℕ) (at : ℕ) (a b : List ℕ) →
    take (at + length a) t ≡ take at s ++ a →
    drop (at + length a) t ≡ drop (at + length a) s →
    put t (at + length a) b ≡ put s at (a ++ b)
unfolding put
put_next s t at a b p q =
    rw (p, ← drop-drop (length b) (at + length a) t, q, drop-drop, length-append) (simp (append_assoc, add_assoc))

pub put_put :
    (s : List ℕ) (at : ℕ) (a b : List ℕ) → at + length a ≤ length s → put (put s at a) (at + length a) b ≡ put s at (a ++ b)
put_put s at a b fits = put_next s (put s at a) at a b (take_put s at a fits) (drop_put s at a fits)

-- as two calls leave it, one after the other
pub put_then :
    (s t last : List ℕ) (at next : ℕ) (a b : List ℕ) →
    t ≡ put s at a →
    last ≡ put t next b →
    next ≡ at + length a →
    next ≤ length s →
    last ≡ put s at (a ++ b)
put_then s t last at next a b p q e fits = rw (q, p, e) (put_put s at a b (omega arith))

-- nothing put in, and everything
pub put_none : (s : List ℕ) (at : ℕ) → put s at [] ≡ s
unfolding put
put_none s at = rw (add-zero, take-append-drop)

pub put_all : (s new : List ℕ) → length s ≡ length new → put s 0 new ≡ new
unfolding put
put_all s new e =
    let past : length s ≤ 0 + length new = omega arith in
    rw (drop_of_length-le s {i = 0 + length new} past) (append-nil new)
