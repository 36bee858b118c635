-- Laws of the layout's parts: a mark byte made and taken apart, the part of a list entry by entry, how many bytes, what the
-- refusals and the offsets say. Assumes nothing.
use Rattle.std.specs.Prelude.{Bool, true, false, ◌&&◌, List, ◌⊎◌, ◌≡◌, refl, ℕ, ◌+◌, ◌*◌, ◌%◌, ◌≤◌, ◌<◌, length, take, drop, nat_eq, nat_le, slice_index_or}
use Rattle.std.proofs.Common.{inl, inr, sym, ap, ◌∙◌, zero-add, arith, length-drop, get_or-drop, get_or-take, length-take-le, ext_get_or}
use borrow.Author.Tests.{eqb-true, eq-eqb, ne_eqb, leb-true, leb-false, le-leb, lt-leb}
use Rattle.paging.specs.Sets.{listed}
use Rattle.paging.specs.Tests.{truth, and_in, and_left, and_right, le_or_lt, same_or_not}
use Rattle.paging.specs.Tables.{listed_length, listed_entry, listed_same}
use Rattle.words.specs.Words.{words, word_at}
use Rattle.words.specs.Laws.{words_length}
use Rattle.begin.specs.Limits.{limits_refusal}
use Rattle.begin.specs.LimitLaws.{Limits, limits_hold, limits_small}
use Rattle.image.specs.Layout.{mark_byte, image_header, image_length, pages_in, slots_in, offsets_right, image_refusal}

-- ---- a mark byte

pub mark_small : (layer : ℕ) (cached : Bool) → layer ≤ 127 → mark_byte layer cached ≤ 255
unfolding mark_byte
mark_small layer true h = omega arith
mark_small layer false h = omega arith

pub layer_of_mark : (layer : ℕ) (cached : Bool) → layer ≤ 127 → mark_byte layer cached % 128 ≡ layer
unfolding mark_byte
layer_of_mark layer true h = omega arith
layer_of_mark layer false h = omega arith

pub cached_of_mark : (layer : ℕ) (cached : Bool) → layer ≤ 127 → nat_le 128 (mark_byte layer cached) ≡ cached
unfolding mark_byte
cached_of_mark layer true h = le-leb 128 (layer + 128) (omega arith)
cached_of_mark layer false h = lt-leb 128 (layer + 0) (omega arith)

mark_parts : (m : ℕ) (cached : Bool) → m ≤ 255 → nat_le 128 m ≡ cached → mark_byte (m % 128) cached ≡ m
unfolding mark_byte
mark_parts m true h e = omega (arith, leb-true 128 m e)
mark_parts m false h e = omega (arith, leb-false 128 m e)

pub mark_of_byte : (m : ℕ) → m ≤ 255 → mark_byte (m % 128) (nat_le 128 m) ≡ m
mark_of_byte m h = mark_parts m (nat_le 128 m) h refl

-- ---- the part of a list, entry by entry

module _ {A : Type 0} (n : ℕ) (xs : List A) (at : ℕ) (d : A) where
  pub listed_part : at + n ≤ length xs → listed n (λ i. slice_index_or xs (at + i) d) ≡ take n (drop at xs)
  listed_part h = ext_get_or d (listed n entry) (take n (drop at xs)) (size ∙ sym part_size) (λ i l. same i (rw size at l))
    where
      entry : ℕ → A
      entry i = slice_index_or xs (at + i) d

      size : length (listed n entry) ≡ n
      size = listed_length n entry

      rest : n ≤ length (drop at xs)
      rest = rw length-drop (omega arith)

      part_size : length (take n (drop at xs)) ≡ n
      part_size = length-take-le n (drop at xs) rest

      same : (i : ℕ) → i < n → slice_index_or (listed n entry) i d ≡ slice_index_or (take n (drop at xs)) i d
      same i l = listed_entry n entry d i l ∙ sym (get_or-take n (drop at xs) i d l ∙ get_or-drop at xs i d)

-- the front of a list, entry by entry
pub listed_front : {A : Type 0} (n : ℕ) (xs : List A) (d : A) → n ≤ length xs → listed n (λ i. slice_index_or xs i d) ≡ take n xs
listed_front n xs d h =
    listed_same n (λ i. slice_index_or xs i d) (λ i. slice_index_or xs (0 + i) d) (λ i l. ap (λ (j : ℕ). slice_index_or xs j d) (sym (zero-add i)))
    ∙ listed_part n xs 0 d (omega arith)

-- ---- the bytes of the header and of a list

pub header_length :
    (N k served hits misses best : ℕ) → length (words 4 (image_header N k served hits misses best)) ≡ 36
unfolding image_header
header_length N k served hits misses best = words_length 4 (image_header N k served hits misses best)

pub list_length : (w n : ℕ) (f : ℕ → ℕ) → length (words w (listed n f)) ≡ w * n
list_length w n f = words_length w (listed n f) ∙ ap (λ (m : ℕ). w * m) (listed_length n f)

-- ---- the offsets

pub record Offsets (b : List ℕ) : Type 0 where
  pub marks : word_at 4 b 24 ≡ 36
  pub slots : word_at 4 b 28 ≡ 36 + pages_in b
  pub priorities : word_at 4 b 32 ≡ 36 + pages_in b + 2 * slots_in b

module _ (b : List ℕ) where
  abbrev marks_right : Bool
  marks_right = nat_eq (word_at 4 b 24) 36

  abbrev slots_right : Bool
  slots_right = nat_eq (word_at 4 b 28) (36 + pages_in b)

  abbrev priorities_right : Bool
  priorities_right = nat_eq (word_at 4 b 32) (36 + pages_in b + 2 * slots_in b)

  pub offsets_true : offsets_right b ≡ true → Offsets b
  unfolding offsets_right
  offsets_true e =
      let first = and_left (marks_right && slots_right) priorities_right e in
      record {
        marks = eqb-true (word_at 4 b 24) 36 (and_left marks_right slots_right first);
        slots = eqb-true (word_at 4 b 28) (36 + pages_in b) (and_right marks_right slots_right first);
        priorities =
            eqb-true
            (word_at 4 b 32)
            (36 + pages_in b + 2 * slots_in b)
            (and_right (marks_right && slots_right) priorities_right e);
      }

  pub offsets_in : Offsets b → offsets_right b ≡ true
  unfolding offsets_right
  offsets_in o =
      and_in
      (marks_right && slots_right)
      priorities_right
      (and_in
      marks_right
      slots_right
      (eq-eqb (word_at 4 b 24) 36 o.marks)
      (eq-eqb (word_at 4 b 28) (36 + pages_in b) o.slots))
      (eq-eqb (word_at 4 b 32) (36 + pages_in b + 2 * slots_in b) o.priorities)

  -- where the first two are right, the third decides
  pub offsets_last : word_at 4 b 24 ≡ 36 → word_at 4 b 28 ≡ 36 + pages_in b → priorities_right ≡ offsets_right b
  unfolding offsets_right
  offsets_last p q = rw (eq-eqb (word_at 4 b 24) 36 p, eq-eqb (word_at 4 b 28) (36 + pages_in b) q)

-- ---- each refusal, from the numbers

module _ (b : List ℕ) where
  abbrev limits : ℕ
  limits = limits_refusal (pages_in b) (slots_in b)

  abbrev total : ℕ
  total = image_length (pages_in b) (slots_in b)

  pub refusal_short : length b < 36 → 13 ≡ image_refusal b
  unfolding image_refusal
  refusal_short h = rw (lt-leb 36 (length b) h)

  module _ (long : 36 ≤ length b) where
    pub refusal_limits : (limits ≡ 0 → ⊥) → limits ≡ image_refusal b
    unfolding image_refusal
    refusal_limits h = rw (le-leb 36 (length b) long, ne_eqb limits 0 h)

    module _ (within : limits ≡ 0) where
      pub refusal_offsets : offsets_right b ≡ false → 15 ≡ image_refusal b
      unfolding image_refusal
      refusal_offsets h = rw (le-leb 36 (length b) long, eq-eqb limits 0 within, h)

      pub refusal_total : offsets_right b ≡ true → (length b ≡ total → ⊥) → 13 ≡ image_refusal b
      unfolding image_refusal
      refusal_total o h = rw (le-leb 36 (length b) long, eq-eqb limits 0 within, o, ne_eqb (length b) total h)

      pub refusal_none : offsets_right b ≡ true → length b ≡ total → 0 ≡ image_refusal b
      unfolding image_refusal
      refusal_none o h = rw (le-leb 36 (length b) long, eq-eqb limits 0 within, o, eq-eqb (length b) total h)

-- what it means that none applies
pub record Read (b : List ℕ) : Type 0 where
  pub long : 36 ≤ length b
  pub limits : Limits (pages_in b) (slots_in b)
  pub offsets : Offsets b
  pub total : length b ≡ image_length (pages_in b) (slots_in b)

pub refusal_read : (b : List ℕ) → image_refusal b ≡ 0 → Read b
refusal_read b e =
    go (le_or_lt 36 (length b)) (same_or_not (limits b) 0) (truth (offsets_right b)) (same_or_not (length b) (total b))
  where
    go :
        (36 ≤ length b) ⊎ (length b < 36) →
        (limits b ≡ 0) ⊎ (limits b ≡ 0 → ⊥) →
        (offsets_right b ≡ true) ⊎ (offsets_right b ≡ false) →
        (length b ≡ total b) ⊎ (length b ≡ total b → ⊥) →
        Read b
    go (inr h) l o t = absurd (omega (arith, refusal_short b h))
    go (inl h) (inr l) o t = absurd (l (refusal_limits b h l ∙ e))
    go (inl h) (inl l) (inr o) t = absurd (omega (arith, refusal_offsets b h l o))
    go (inl h) (inl l) (inl o) (inr t) = absurd (omega (arith, refusal_total b h l o t))
    go (inl h) (inl l) (inl o) (inl t) =
        record { long = h; limits = limits_hold (pages_in b) (slots_in b) l; offsets = offsets_true b o; total = t }

-- every refusal has a number of document 01's table
pub refusal_small : (b : List ℕ) → image_refusal b ≤ 17
refusal_small b =
    go (le_or_lt 36 (length b)) (same_or_not (limits b) 0) (truth (offsets_right b)) (same_or_not (length b) (total b))
  where
    go :
        (36 ≤ length b) ⊎ (length b < 36) →
        (limits b ≡ 0) ⊎ (limits b ≡ 0 → ⊥) →
        (offsets_right b ≡ true) ⊎ (offsets_right b ≡ false) →
        (length b ≡ total b) ⊎ (length b ≡ total b → ⊥) →
        image_refusal b ≤ 17
    go (inr h) l o t = omega (arith, refusal_short b h)
    go (inl h) (inr l) o t = omega (arith, refusal_limits b h l, limits_small (pages_in b) (slots_in b))
    go (inl h) (inl l) (inr o) t = omega (arith, refusal_offsets b h l o)
    go (inl h) (inl l) (inl o) (inr t) = omega (arith, refusal_total b h l o t)
    go (inl h) (inl l) (inl o) (inl t) = omega (arith, refusal_none b h l o t)

-- the sections stand inside the image
pub read_room : (b : List ℕ) → Read b → 36 + 3 * pages_in b + 2 * slots_in b ≤ length b
unfolding image_length
read_room b r = omega (arith, r.total)
