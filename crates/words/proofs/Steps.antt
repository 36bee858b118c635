-- What some bytes of a slice and a turn of a loop leave, in the contracts' words. Assumes nothing.
use mathlib.Core.List.{List, [], ◌∷◌, ◌++◌}
use mathlib.Core.Path.{◌≡◌, sym, ap, ◌∙◌}
use Prim.Native.Nat.{ℕ, suc, ◌+◌, ◌*◌, ◌-◌, ◌/◌, ◌%◌, ◌≤◌, ◌<◌}
use native.Mathlib.Numerals.{add-one}
use native.Mathlib.Omega.{arith}
use lib.ListN.{length, get_or, take}
use lib.Seq.{drop-cons, drop-drop, length-take-le, take_all, take-suc}
use Rattle.words.specs.Words.{bytes, number, words, word_at, put}
use borrow.Rule.Slice.PartMut.{put_mid}
use Rattle.words.specs.Laws.{bytes_length, word_at_add, words_length, words_append, words_one, put_none, put_then}

pub read_two : (s : List ℕ) (at : ℕ) → at + 2 ≤ length s → get_or s at 0 + get_or s (at + 1) 0 * 256 ≡ word_at 2 s at
unfolding word_at number
read_two s at h =
    rw (drop-cons s at 0 (omega arith), drop-cons s (suc at) 0 (omega arith), add-one at) (omega arith)

-- two halves of 16 bits are one number of 32
pub read_four :
    (s : List ℕ) (at : ℕ) →
    at + 4 ≤ length s →
    get_or s at 0 + get_or s (at + 1) 0 * 256 + get_or s (at + 2) 0 * 65536 + get_or s (at + 3) 0 * 16777216 ≡ word_at 4 s at
read_four s at h =
    let high : at + 2 + 1 ≡ at + 3 = omega arith in
    let upper = rw high at (read_two s (at + 2) (omega arith)) in
    omega (arith, word_at_add 2 2 s at (omega arith), read_two s at (omega arith), upper)

-- a number's bytes copied over a part of a slice
pub put_bytes :
    (w : ℕ) (s t new : List ℕ) (at v : ℕ) → t ≡ new → new ≡ bytes w v → put_mid at (at + w - at) s t ≡ put s at (bytes w v)
unfolding put
put_bytes w s t new at v p e =
    let size : at + w - at ≡ length (bytes w v) = omega (arith, bytes_length w v) in
    rw (p, e, size, drop-drop)

pub low_first_4 : (v : ℕ) → v % 256 ∷ v / 256 % 256 ∷ v / 65536 % 256 ∷ v / 16777216 % 256 ∷ [] ≡ bytes 4 v
unfolding bytes
low_first_4 v =
    let two : v / 65536 ≡ v / 256 / 256 = omega arith in
    let three : v / 16777216 ≡ v / 256 / 256 / 256 = omega arith in
    rw (two, three)

-- the loop that writes a list: nothing yet, one entry more, all of them
pub list_none : (w : ℕ) (s : List ℕ) (at : ℕ) → s ≡ put s at (words w [])
unfolding words
list_none w s at = sym (put_none s at)

module _ (w : ℕ) (s : List ℕ) (at : ℕ) (vs : List ℕ) where
  pub list_more :
      (i : ℕ) (t last : List ℕ) →
      i < length vs →
      at + w * i ≤ length s →
      t ≡ put s at (words w (take i vs)) →
      last ≡ put t (at + w * i) (bytes w (get_or vs i 0)) →
      last ≡ put s at (words w (take (i + 1) vs))
  list_more i t last l h p q =
      let all : length (words w (take i vs)) ≡ w * length (take i vs) = words_length w (take i vs) in
      let size : length (words w (take i vs)) ≡ w * i = rw (length-take-le i vs (omega arith)) at all in
      put_then s t last at (at + w * i) (words w (take i vs)) (bytes w (get_or vs i 0)) p q (omega arith) h
      ∙ ap (put s at) (sym one_more)
    where
      one_more : words w (take (i + 1) vs) ≡ words w (take i vs) ++ bytes w (get_or vs i 0)
      one_more = rw (add-one i, take-suc vs i 0 l, words_append w, words_one w)

  pub list_all : (i : ℕ) (t : List ℕ) → length vs ≤ i → t ≡ put s at (words w (take i vs)) → t ≡ put s at (words w vs)
  list_all i t l p = p ∙ rw (take_all i vs l)
