-- What a turn of the loops that read and write a list leaves, in the contracts' words. Assumes nothing.
use mathlib.Core.Bool.{Bool, true, false}
use mathlib.Core.List.{List, [], ◌∷◌}
use mathlib.Core.Logic.{⊎_elim}
use mathlib.Core.Path.{◌≡◌, refl, sym, ap, ◌∙◌}
use Prim.Native.Nat.{ℕ, suc, ◌+◌, ◌-◌, ◌≤◌, ◌<◌}
use native.Mathlib.Numerals.{add-one}
use native.Mathlib.Omega.{arith}
use borrow.Author.Tests.{le-leb, lt-leb, eq-eqb, ne_eqb}
use lib.ListN.{length, get_or, set, take, drop, length-set, length-drop, drop_of_length-le}
use lib.Seq.{take_all, drop-cons, drop-drop, take-nil}
use Rattle.std.specs.Prelude.{Option, Some, None, unwrap_or}
use Rattle.std.specs.Prelude.{Result}
use Rattle.std.specs.Result.{OkIff, result_ok}
use Rattle.std.proofs.lemmas.Result.{Ok-from_Ok_iff}
use Rattle.paging.specs.Sets.{◌=?◌, ◌≤?◌}
use Rattle.paging.specs.Tests.{le_or_lt}
use Rattle.words.specs.Words.{put}
use Rattle.words.specs.Laws.{put_none}
use Rattle.text.specs.Text.{decimal}
use Rattle.hexadecimal.specs.Room.{Wrote}
use Rattle.hexadecimal.specs.Laws.{none_wrote, wrote_then, wrote_as}
use Rattle.fields.specs.Fields.{before, number_of, none_word, in_front, parts, number_then, numbers_of, list_in, count_of, list_after, more_texts, list_texts}
use Rattle.fields.specs.Laws.{put_more}
use Rattle.fields.proofs.Steps.{and_fails}

-- ---- the parts of a word, one by one

part_last : (x : ℕ) (w : List ℕ) → length w ≤ before x w → parts x w ≡ take (before x w) w ∷ []
unfolding before parts in_front
part_last x [] l = refl
part_last x (c ∷ cs) l = go (c =? x) refl (part_last x cs)
  where
    go :
        (t : Bool) →
        c =? x ≡ t →
        (length cs ≤ before x cs → parts x cs ≡ take (before x cs) cs ∷ []) →
        parts x (c ∷ cs) ≡ take (before x (c ∷ cs)) (c ∷ cs) ∷ []
    go true e rest = absurd (omega (arith, (rw e at l)))
    go false e rest = rw (e, rest (omega (arith, (rw e at l))))

part_more : (x : ℕ) (w : List ℕ) → before x w < length w → parts x w ≡ take (before x w) w ∷ parts x (drop (suc (before x w)) w)
unfolding before parts in_front
part_more x [] l = absurd (omega arith)
part_more x (c ∷ cs) l = go (c =? x) refl (part_more x cs)
  where
    go :
        (t : Bool) →
        c =? x ≡ t →
        (before x cs < length cs → parts x cs ≡ take (before x cs) cs ∷ parts x (drop (suc (before x cs)) cs)) →
        parts x (c ∷ cs) ≡ take (before x (c ∷ cs)) (c ∷ cs) ∷ parts x (drop (suc (before x (c ∷ cs))) (c ∷ cs))
    go true e rest = rw e
    go false e rest = rw (e, rest (omega (arith, (rw e at l))))

part_first : (x : ℕ) (w : List ℕ) → parts x w ≡ take (before x w) w ∷ drop 1 (parts x w)
part_first x w = ⊎_elim last more (le_or_lt (length w) (before x w))
  where
    last : length w ≤ before x w → parts x w ≡ take (before x w) w ∷ drop 1 (parts x w)
    last l = rw (part_last x w l)

    more : before x w < length w → parts x w ≡ take (before x w) w ∷ drop 1 (parts x w)
    more l = rw (part_more x w l)

-- a word has one part at least
part_some : (x : ℕ) (w : List ℕ) → 1 ≤ length (parts x w)
part_some x w = rw (part_first x w) (omega arith)

-- ---- the loop that reads a list

abbrev gap : ℕ → List ℕ → ℕ
gap = before

-- Before part n, which begins at an offset: what is left, read behind what is there, makes the whole.
pub record Reading (word entry : List ℕ) (out : List ℕ) (n from : ℕ) : Type 0 where
  pub room : n ≤ length entry
  pub reached : from ≤ length word
  pub size : length out ≡ length entry
  pub goods : length (numbers_of (parts 44 word)) ≡ n + length (numbers_of (parts 44 (drop from word)))
  pub all : length (parts 44 word) ≡ n + length (parts 44 (drop from word))
  pub numbers : put out n (take (length entry - n) (numbers_of (parts 44 (drop from word)))) ≡ put entry 0 (take (length entry) (numbers_of (parts 44 word)))

pub reading_first : (word entry : List ℕ) → Reading word entry entry 0 0
reading_first word entry =
    let none_less : length entry - 0 ≡ length entry = omega arith in
    record { room = omega arith; reached = omega arith; size = refl; goods = omega arith; all = omega arith; numbers = rw none_less }

-- a number that is no larger than the largest entry becomes one
pub entry_of : {E : Type 0} {x : ℕ} (r : Result ℕ E) {o : Option ℕ} → x ≤ 65535 → OkIff r (x < 65536) x → o ≡ result_ok r → o ≡ Some x
entry_of {x} r l f e = e ∙ rw (Ok-from_Ok_iff r (x < 65536) x f (omega arith))

pub entry_is : {E : Type 0} {x y : ℕ} (r : Result ℕ E) {o : Option ℕ} → x ≤ 65535 → OkIff r (x < 65536) x → o ≡ result_ok r → o ≡ Some y → y ≡ x
entry_is {x} {y} r l f e g =
    let same : Some y ≡ Some x = sym g ∙ entry_of r l f e in
    ap (λ o. unwrap_or o 0) same

-- what a list read, or refused, leaves
abbrev pub Done : List ℕ → List ℕ → Option ℕ → List ℕ → Type 0
Done word s r last = (r ≡ count_of (list_in (length s) word)) × (last ≡ list_after word s)

pub no_numbers : (word s : List ℕ) → none_word word ≡ true → Done word s (Some 0) s
unfolding list_in count_of list_after
no_numbers word s e = (rw e, rw e)

module _ (word s : List ℕ) (some_is : none_word word ≡ false) where
  abbrev words : List (List ℕ)
  words = parts 44 word

  abbrev good : List ℕ
  good = numbers_of (parts 44 word)

  after_is : list_after word s ≡ put s 0 (take (length s) good)
  unfolding list_after
  after_is = rw some_is

  fewer_refused : length good < length words → None ≡ count_of (list_in (length s) word)
  unfolding list_in count_of
  fewer_refused l = rw (some_is, ne_eqb (length good) (length words) (λ e. omega arith))

  more_refused : length s < length words → None ≡ count_of (list_in (length s) word)
  unfolding list_in count_of
  more_refused l = rw (some_is, and_fails (length good =? length words) (length words ≤? length s) (lt-leb _ _ l))

  all_counted : length good ≡ length words → length words ≤ length s → Some (length good) ≡ count_of (list_in (length s) word)
  unfolding list_in count_of
  all_counted e l = rw (some_is, eq-eqb (length good) (length words) e, le-leb _ _ l)

module _ (word entry out : List ℕ) (n from : ℕ) (now_is : Reading word entry out n from) (some_is : none_word word ≡ false) where
  abbrev rest : List ℕ
  rest = drop from word

  -- the loop has filled the buffer, and there is one part more
  pub reading_full : length entry ≤ n → Done word entry None out
  reading_full l =
      let none_left : length entry - n ≡ 0 = omega arith in (
        more_refused word entry some_is (omega (arith, now_is.all, part_some 44 rest)),
        sym (put_none out n) ∙ (rw none_left at now_is.numbers) ∙ sym (after_is word entry some_is),
      )

  module _ (end : ℕ) (end_is : end ≡ from + gap 44 rest) where
    part_is : take (end - from) rest ≡ take (gap 44 rest) rest
    part_is = let size : end - from ≡ gap 44 rest = omega arith in rw size

    numbers_first : numbers_of (parts 44 rest) ≡ number_then (number_of 65535 (take (end - from) rest)) (numbers_of (drop 1 (parts 44 rest)))
    unfolding numbers_of
    numbers_first = rw (part_is, part_first 44 rest)

    -- a part that is no number
    pub reading_bad : None ≡ number_of 65535 (take (end - from) rest) → Done word entry None out
    unfolding number_then
    reading_bad e =
        let stop : numbers_of (parts 44 rest) ≡ [] = numbers_first ∙ rw (← e) in
        let goods = rw stop at now_is.goods in (
          fewer_refused word entry some_is (omega (arith, goods, now_is.all, part_some 44 rest)),
          sym (put_none out n) ∙ (rw (stop, take-nil (length entry - n)) at now_is.numbers) ∙ sym (after_is word entry some_is),
        )

    module _ (x : ℕ) (x_is : Some x ≡ number_of 65535 (take (end - from) rest)) (fits : n < length entry) where
      numbers_one : numbers_of (parts 44 rest) ≡ x ∷ numbers_of (drop 1 (parts 44 rest))
      unfolding number_then
      numbers_one = numbers_first ∙ rw (← x_is)

      written : put (set out n x) (n + 1) (take (length entry - (n + 1)) (numbers_of (drop 1 (parts 44 rest))))
          ≡ put entry 0 (take (length entry) (numbers_of (parts 44 word)))
      written =
          let less : length entry - n ≡ suc (length entry - (n + 1)) = omega arith in
          sym (put_more out n x (take (length entry - (n + 1)) (numbers_of (drop 1 (parts 44 rest)))) (omega (arith, now_is.size)))
          ∙ (rw (numbers_one, less) at now_is.numbers)

      -- the last part
      pub reading_last : length word ≤ end → Done word entry (Some (n + 1)) (set out n x)
      unfolding numbers_of
      reading_last l =
          let tail : drop 1 (parts 44 rest) ≡ [] = rw (part_last 44 rest (rw length-drop (omega (arith, now_is.reached)))) in
          let goods : length (numbers_of (parts 44 word)) ≡ n + 1 = last_goods tail in
          let all : length (parts 44 word) ≡ n + 1 = last_all tail in (
            ap Some (sym goods) ∙ all_counted word entry some_is (goods ∙ sym all) (omega (arith, all)),
            last_numbers tail ∙ sym (after_is word entry some_is),
          )
        where
          last_goods : drop 1 (parts 44 rest) ≡ [] → length (numbers_of (parts 44 word)) ≡ n + 1
          last_goods tail = (rw (numbers_one, tail) at now_is.goods)

          last_all : drop 1 (parts 44 rest) ≡ [] → length (parts 44 word) ≡ n + 1
          last_all tail = (rw (part_first 44 rest, tail) at now_is.all)

          last_numbers : drop 1 (parts 44 rest) ≡ [] → set out n x ≡ put entry 0 (take (length entry) (numbers_of (parts 44 word)))
          last_numbers tail = sym (put_none (set out n x) (n + 1)) ∙ (rw (tail, take-nil (length entry - (n + 1))) at written)

      -- and any other
      pub reading_next : end < length word → Reading word entry (set out n x) (n + 1) (end + 1)
      reading_next l =
          let tail : drop 1 (parts 44 rest) ≡ parts 44 (drop (end + 1) word) = next_parts in
          record {
            room = omega arith;
            reached = omega arith;
            size = rw length-set now_is.size;
            goods = rw (numbers_one, tail) at now_is.goods ∙ omega arith;
            all = rw (part_first 44 rest, tail) at now_is.all ∙ omega arith;
            numbers = rw tail at written;
          }
        where
          next_parts : drop 1 (parts 44 rest) ≡ parts 44 (drop (end + 1) word)
          next_parts =
              let later : from + suc (gap 44 rest) ≡ end + 1 = omega arith in
              rw (part_more 44 rest (rw length-drop (omega arith)), drop-drop, later)

-- ---- the loop that writes a list

module _ (list : List ℕ) where
  more_next : (i : ℕ) → i < length list → more_texts (drop i list) ≡ (44 ∷ []) ∷ decimal (get_or list i 0) ∷ more_texts (drop (i + 1) list)
  unfolding more_texts
  more_next i l = rw (add-one i, drop-cons list i 0 l)

  more_last : (i : ℕ) → length list ≤ i → more_texts (drop i list) ≡ []
  unfolding more_texts
  more_last i l = rw (drop_of_length-le list {i = i} l)

  -- Before number i: what is left, written behind what is there, makes the whole.
  pub record Listing (before : List ℕ) (at : ℕ) (out : List ℕ) (next i : ℕ) : Type 0 where
    pub size : length out ≡ length before
    pub whole : (r : ℕ) (last : List ℕ) → Wrote out next (more_texts (drop i list)) r last → Wrote before at (more_texts list) r last

  module _ (before : List ℕ) (at : ℕ) where
    pub listing_first : Listing before at before at 0
    listing_first = record { size = refl; whole = λ r last p. p }

    module _ (out : List ℕ) (next i : ℕ) (now_is : Listing before at out next i) where
      pub listing_next :
          {mid : List ℕ} {then : ℕ} {after : List ℕ} {end : ℕ} →
          i < length list →
          length after ≡ length before →
          Wrote out next ((44 ∷ []) ∷ []) then mid →
          Wrote mid then (decimal (get_or list i 0) ∷ []) end after →
          Listing before at after end (i + 1)
      listing_next l size comma number =
          record {
            size = size;
            whole = λ r last rest. now_is.whole r last (wrote_as (more_next i l) (wrote_then (wrote_then comma number) rest));
          }

      pub listing_last : length list ≤ i → Wrote before at (more_texts list) next out
      listing_last l = now_is.whole next out (wrote_as (more_last i l) none_wrote)

-- the first number, and those behind it
pub list_some : (list : List ℕ) → 1 ≤ length list → list_texts list ≡ decimal (get_or list 0 0) ∷ more_texts (take (length list - 1) (drop 1 list))
unfolding list_texts
list_some [] l = absurd (omega arith)
list_some (n ∷ ns) l = rw (take_all (length (n ∷ ns) - 1) ns (omega arith))

pub list_none : (list : List ℕ) → length list ≡ 0 → list_texts list ≡ (45 ∷ []) ∷ []
unfolding list_texts
list_none [] e = refl
list_none (n ∷ ns) e = absurd (omega arith)
