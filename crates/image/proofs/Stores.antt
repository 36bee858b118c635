-- Bytes, header numbers and sections written one after the other, in the contracts' words. Assumes nothing.
use mathlib.Core.List.{List, [], ◌∷◌, ◌++◌, append_assoc}
use mathlib.Core.Path.{◌≡◌, refl, sym, ap, ◌∙◌}
use Prim.Native.Nat.{ℕ, zero, suc, ◌+◌, ◌*◌, ◌≤◌, ◌<◌}
use native.Mathlib.Numerals.{add-one}
use native.Mathlib.Omega.{arith}
use lib.ListN.{length, get_or, set, take, length-append}
use lib.Seq.{set_split}
use Rattle.paging.specs.Sets.{listed}
use Rattle.paging.specs.Tables.{listed_length}
use Rattle.words.specs.Words.{bytes, words, put}
use Rattle.words.specs.Laws.{put_none, put_then}
use Rattle.words.proofs.Steps.{list_more}
use Rattle.slots.specs.Slots.{no_page, seated}
use Rattle.image.specs.Layout.{mark_byte, image_header, image_bytes, image_length}
use Rattle.image.proofs.Laws.{listed_front, header_length, list_length}

-- ---- a loop that stores f of each number below n, from an offset on

set_put : (s : List ℕ) (i v : ℕ) → i < length s → set s i v ≡ put s i (v ∷ [])
unfolding put
set_put s i v l = rw (add-one i) (set_split s i v l)

listed_last : (n : ℕ) (f : ℕ → ℕ) → listed (suc n) f ≡ listed n f ++ (f n ∷ [])
unfolding listed
listed_last zero f = refl
listed_last (suc n) f = ap (λ (t : List ℕ). f 0 ∷ t) (listed_last n (λ i. f (suc i)))

module _ (s : List ℕ) (at : ℕ) (f : ℕ → ℕ) where
  pub stored_none : s ≡ put s at (listed 0 f)
  unfolding listed
  stored_none = sym (put_none s at)

  pub stored_more :
      (n v : ℕ) (t : List ℕ) →
      at + n < length s →
      length t ≡ length s →
      t ≡ put s at (listed n f) →
      v ≡ f n →
      set t (at + n) v ≡ put s at (listed (n + 1) f)
  stored_more n v t l size e g =
      put_then
      s
      t
      (set t (at + n) v)
      at
      (at + n)
      (listed n f)
      (f n ∷ [])
      e
      (set_put t (at + n) v (omega arith) ∙ ap (λ (x : ℕ). put t (at + n) (x ∷ [])) g)
      (omega (arith, listed_length n f))
      (omega arith)
      ∙ ap (put s at) (sym (listed_last n f) ∙ ap (λ (m : ℕ). listed m f) (sym (add-one n)))

  pub stored_all : (i n : ℕ) (t : List ℕ) → i ≤ n → n ≤ i → t ≡ put s at (listed i f) → t ≡ put s at (listed n f)
  stored_all i n t a b e = let same : i ≡ n = omega arith in e ∙ ap (λ (m : ℕ). put s at (listed m f)) same

-- ---- one number of the header more

pub number_more :
    (s t last vs : List ℕ) (i : ℕ) →
    i < length vs →
    4 * i ≤ length s →
    t ≡ put s 0 (words 4 (take i vs)) →
    last ≡ put t (4 * i) (bytes 4 (get_or vs i 0)) →
    last ≡ put s 0 (words 4 (take (i + 1) vs))
number_more s t last vs i l h p q =
    let at : 0 + 4 * i ≡ 4 * i = omega arith in
    list_more 4 s 0 vs i t last l (omega arith) p (rw at q)

-- ---- the two lists, and the whole image

module _ (N k : ℕ) (s t last held priority : List ℕ) where
  abbrev slots : List ℕ
  slots = words 2 (listed k (λ s. get_or held s no_page))

  abbrev numbers : List ℕ
  numbers = words 2 (listed N (λ q. get_or priority q 0))

  pub lists_put :
      k ≤ length held →
      N ≤ length priority →
      36 + N + 2 * k ≤ length s →
      t ≡ put s (36 + N) (words 2 (take k held)) →
      last ≡ put t (36 + N + 2 * k) (words 2 (take N priority)) →
      last ≡ put s (36 + N) (slots ++ numbers)
  lists_put lk ln fits p q =
      put_then s t last (36 + N) (36 + N + 2 * k) slots numbers first second (omega (arith, list_length 2 k (λ s. get_or held s no_page))) fits
    where
      first : t ≡ put s (36 + N) slots
      first = rw (listed_front k held no_page lk) p

      second : last ≡ put t (36 + N + 2 * k) numbers
      second = rw (listed_front N priority 0 ln) q

module _ (N k served hits misses best : ℕ) (layer priority held : List ℕ) (s t u last : List ℕ) where
  abbrev header : List ℕ
  header = words 4 (image_header N k served hits misses best)

  abbrev marks : List ℕ
  marks = listed N (λ q. mark_byte (get_or layer q 0) (seated held k q))

  abbrev lists : List ℕ
  lists = words 2 (listed k (λ s. get_or held s no_page)) ++ words 2 (listed N (λ q. get_or priority q 0))

  pub image_put :
      image_length N k ≤ length s →
      t ≡ put s 0 header →
      u ≡ put t 36 marks →
      last ≡ put u (36 + N) lists →
      last ≡ put s 0 (image_bytes N k served hits misses best layer priority held)
  unfolding image_bytes image_length
  image_put fits p q r =
      put_then s u last 0 (36 + N) (header ++ marks) lists two r both (omega arith)
      ∙ ap (put s 0) (append_assoc header marks lists)
    where
      size : length header ≡ 36
      size = header_length N k served hits misses best

      two : u ≡ put s 0 (header ++ marks)
      two = put_then s t u 0 36 header marks p q (omega (arith, size)) (omega arith)

      both : 36 + N ≡ 0 + length (header ++ marks)
      both = rw length-append (omega (arith, size, listed_length N (λ q. mark_byte (get_or layer q 0) (seated held k q))))
