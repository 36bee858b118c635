-- What callers use of the slots: what stands in the tables by slots, where a cached page is, cached pages counted by their
-- slots, the least key. Assumes nothing.
use Rattle.std.specs.Prelude.{Some, None, true, false, ◌&&◌, List, ◌⊎◌, ◌≡◌, length, nat_eq, nat_le, slice_index_or, if◌then◌else◌}
use Rattle.std.proofs.Math.Logic.{inl, ⊎_elim}
use Rattle.std.proofs.Common.{inr, sym, ap, ◌∙◌}
use Rattle.std.proofs.Math.Option.{Option, none, some}
use Rattle.std.proofs.Math.Path.{Path, refl}
use Rattle.std.proofs.lemmas.Option.{none-some, same_Some}
use Prim.Native.Nat.{ℕ, zero, suc, ◌+◌, min, ◌≤◌, ◌<◌}
use native.Mathlib.Omega.{arith}
use borrow.Author.Tests.{eqb-true, eq-eqb, ne_eqb, leb-true, le-leb, lt-leb}
use Rattle.paging.specs.Sets.{Pages, ◌∈◌, bit, count}
use Rattle.paging.specs.Tests.{truth, clash, isnt, and_in, and_left, and_right, le_or_lt, same_or_not}
use Rattle.paging.specs.Count.{count_most, count_none, count_same, count_minus}
use Rattle.paging.specs.Words.{any_in, any_true, first_none, first_some, first_found}
use Rattle.paging.specs.Tables.{listed_entry, table_at, table_length}
use Rattle.ranking.specs.Key.{no_key, key_at}
use Rattle.slots.specs.Slots.{no_page, seated, seat, found, entries_of, near_of, keys_of, near_to, tally_of, least_key}

-- ---- the tables by slots

module _ (layer h : List ℕ) (k : ℕ) where
  pub near_at : (s : ℕ) → s < k → slice_index_or (near_of layer h k) s 0 ≡ slice_index_or layer (slice_index_or h s no_page) 0
  unfolding near_of
  near_at s l = table_at 64 k 0 (λ s. slice_index_or layer (slice_index_or h s no_page) 0) s l

  pub near_length : k ≤ 64 → length (near_of layer h k) ≡ 64
  unfolding near_of
  near_length l = table_length 64 k 0 (λ s. slice_index_or layer (slice_index_or h s no_page) 0) l

module _ (key : ℕ → ℕ) (h : List ℕ) (k : ℕ) where
  pub keys_at : (s : ℕ) → s < k → slice_index_or (keys_of key h k) s 0 ≡ key (slice_index_or h s no_page)
  unfolding keys_of
  keys_at s l = table_at 64 k 0 (λ s. key (slice_index_or h s no_page)) s l

  pub keys_length : k ≤ 64 → length (keys_of key h k) ≡ 64
  unfolding keys_of
  keys_length l = table_length 64 k 0 (λ s. key (slice_index_or h s no_page)) l

-- each is a table of the pages, read by slots
pub near_entries : (layer h : List ℕ) (k : ℕ) → entries_of layer h k 0 ≡ near_of layer h k
unfolding entries_of near_of
near_entries layer h k = refl

pub keys_entries : (pages h : List ℕ) (k : ℕ) → entries_of pages h k 0 ≡ keys_of (key_at pages) h k
unfolding entries_of keys_of
keys_entries pages h k = refl

-- no more slots are near than there are
pub near_most : (near : List ℕ) (k j : ℕ) → near_to near k j ≤ k
unfolding near_to
near_most near k j = count_most (λ s. nat_le (slice_index_or near s 0) j) k

-- a layer more is its slots more
bit_more : (x j : ℕ) → bit (nat_le x j) + bit (nat_eq x (suc j)) ≡ bit (nat_le x (suc j))
bit_more x j = ⊎_elim upto past (le_or_lt x j)
  where
    upto : x ≤ j → bit (nat_le x j) + bit (nat_eq x (suc j)) ≡ bit (nat_le x (suc j))
    upto l = rw (le-leb x j l, le-leb x (suc j) (omega arith), ne_eqb x (suc j) (λ e. omega arith))

    past : j < x → bit (nat_le x j) + bit (nat_eq x (suc j)) ≡ bit (nat_le x (suc j))
    past l = rw (lt-leb x j l) (⊎_elim there beyond (same_or_not x (suc j)))
      where
        there : x ≡ suc j → 0 + bit (nat_eq x (suc j)) ≡ bit (nat_le x (suc j))
        there e = rw (eq-eqb x (suc j) e, le-leb x (suc j) (omega arith))

        beyond : (x ≡ suc j → ⊥) → 0 + bit (nat_eq x (suc j)) ≡ bit (nat_le x (suc j))
        beyond ne = rw (ne_eqb x (suc j) ne, lt-leb x (suc j) (omega arith))

pub near_more : (near : List ℕ) (k j : ℕ) → suc j < 256 → near_to near k j + slice_index_or (tally_of near k) (suc j) 0 ≡ near_to near k (suc j)
unfolding near_to tally_of count
near_more near k j l = rw (listed_entry 256 (λ j. count (λ s. nat_eq (slice_index_or near s 0) j) k) 0 (suc j) l) (sums k)
  where
    sums : (k : ℕ) → count (λ s. nat_le (slice_index_or near s 0) j) k + count (λ s. nat_eq (slice_index_or near s 0) (suc j)) k ≡ count (λ s. nat_le (slice_index_or near s 0) (suc j)) k
    sums zero = refl
    sums (suc k) = omega (arith, sums k, bit_more (slice_index_or near k 0) j)

-- ---- a cached page is in a slot

-- No two of the first k slots hold the same page.
abbrev pub Different : List ℕ → ℕ → Type 0
Different h k = (s t : ℕ) → s < k → t < k → slice_index_or h s no_page ≡ slice_index_or h t no_page → s ≡ t

module _ (h : List ℕ) (k q : ℕ) where
  pub seated_in : (s : ℕ) → s < k → slice_index_or h s no_page ≡ q → seated h k q ≡ true
  unfolding seated
  seated_in s l e = any_in k (λ s. nat_eq (slice_index_or h s no_page) q) s l (eq-eqb (slice_index_or h s no_page) q e)

  pub seated_was : seated h k q ≡ true → (s : ℕ) × (s < k) × (slice_index_or h s no_page ≡ q)
  unfolding seated
  seated_was e =
      let (s, l, u) = any_true k (λ s. nat_eq (slice_index_or h s no_page) q) e in
      (s, l, eqb-true (slice_index_or h s no_page) q u)

  pub seat_some : (s : ℕ) → Path (Option ℕ) (seat h k q) (some s) → (s < k) × (slice_index_or h s no_page ≡ q)
  unfolding seat
  seat_some s e =
      let f = first_some k (λ s. nat_eq (slice_index_or h s no_page) q) s e in
      (f.below, eqb-true (slice_index_or h s no_page) q f.member)

  pub seat_none : Path (Option ℕ) (seat h k q) none → seated h k q ≡ false
  unfolding seat
  seat_none e = isnt (seated h k q) (λ u. away (seated_was u))
    where
      away : (s : ℕ) × (s < k) × (slice_index_or h s no_page ≡ q) → ⊥
      away w =
          clash (eq-eqb (slice_index_or h w.0 no_page) q w.2) (first_none k (λ s. nat_eq (slice_index_or h s no_page) q) e w.0 w.1)

  pub seat_found : seated h k q ≡ true → (s : ℕ) × Path (Option ℕ) (seat h k q) (some s)
  unfolding seat
  seat_found e =
      let (s, l, u) = seated_was e in
      let (t, le, ex) = first_found k (λ s. nat_eq (slice_index_or h s no_page) q) s l (eq-eqb (slice_index_or h s no_page) q u) in
      (t, ex)

  -- where no two slots hold the same page, the slot that holds it is its slot
  pub seat_one : Different h k → (s : ℕ) → s < k → slice_index_or h s no_page ≡ q → Path (Option ℕ) (seat h k q) (some s)
  seat_one once s l e =
      let (t, ex) = seat_found (seated_in s l e) in
      let w = seat_some t ex in
      ex ∙ ap some (once t s w.0 l (w.1 ∙ sym e))

-- ---- what an answer of a search says

pub found_at : (x : Option ℕ) (j : ℕ) → Some j ≡ found x → Path (Option ℕ) x (some j)
found_at none j e = absurd (none-some j (sym e))
found_at (some i) j e = ap some (sym (same_Some j i e))

pub found_none : (x : Option ℕ) → None ≡ found x → Path (Option ℕ) x none
found_none none e = refl
found_none (some i) e = absurd (none-some i e)

-- ---- cached pages are counted by their slots

-- Every one of the first k slots holds a page below N.
abbrev pub Below : List ℕ → ℕ → ℕ → Type 0
Below h k N = (s : ℕ) → s < k → slice_index_or h s no_page < N

module _ (h : List ℕ) (X : Pages) where
  abbrev cached : ℕ → Pages
  cached k q = seated h k q && X q

  abbrev by_slot : Pages
  by_slot s = X (slice_index_or h s no_page)

  -- one slot more: the pages of the others stay,
  keeps : (k q : ℕ) → q ∈ cached k → q ∈ cached (suc k)
  keeps k q e =
      let (s, l, u) = seated_was h k q (and_left (seated h k q) (X q) e) in
      and_in (seated h (suc k) q) (X q) (seated_in h (suc k) q s (omega arith) u) (and_right (seated h k q) (X q) e)

  -- there is no other page than theirs and its own,
  was : (k q : ℕ) → (q ≡ slice_index_or h k no_page → ⊥) → q ∈ cached (suc k) → q ∈ cached k
  was k q ne e =
      and_in
      (seated h k q)
      (X q)
      (other (seated_was h (suc k) q (and_left (seated h (suc k) q) (X q) e)))
      (and_right (seated h (suc k) q) (X q) e)
    where
      other : (s : ℕ) × (s < suc k) × (slice_index_or h s no_page ≡ q) → seated h k q ≡ true
      other w =
          ⊎_elim
          (λ e. absurd (ne (sym w.2 ∙ ap (λ (i : ℕ). slice_index_or h i no_page) e)))
          (λ apart. seated_in h k q w.0 (omega (arith, w.1)) w.2)
          (same_or_not w.0 k)

  -- and its own was in no slot before it
  fresh : (k : ℕ) → Different h (suc k) → cached k (slice_index_or h k no_page) ≡ false
  fresh k once = isnt (cached k p) (λ e. twice (seated_was h k p (and_left (seated h k p) (X p) e)))
    where
      p : ℕ
      p = slice_index_or h k no_page

      twice : (s : ℕ) × (s < k) × (slice_index_or h s no_page ≡ slice_index_or h k no_page) → ⊥
      twice w = omega (arith, w.1, once w.0 k (omega (arith, w.1)) (omega arith) w.2)

  -- so the count grows by this page, if it is in X
  abbrev Grows : ℕ → ℕ → Type 0
  Grows k N = count (cached (suc k)) N ≡ bit (by_slot k) + count (cached k) N

  counted : (k N : ℕ) → slice_index_or h k no_page < N → Different h (suc k) → Grows k N
  counted k N l once = ⊎_elim in_X out (truth (by_slot k))
    where
      p : ℕ
      p = slice_index_or h k no_page

      own : by_slot k ≡ true → p ∈ cached (suc k)
      own t = and_in (seated h (suc k) p) (X p) (seated_in h (suc k) p k (omega arith) refl) t

      in_X : by_slot k ≡ true → Grows k N
      in_X t =
          rw t
          (omega (
            arith,
            count_minus
                (cached k)
                (cached (suc k))
                N
                p
                l
                (fresh k once)
                (own t)
                (λ q lq e. keeps k q e)
                (λ q lq ne e. was k q ne e),
          ))

      out : by_slot k ≡ false → Grows k N
      out f =
          rw f
          (omega (
            arith,
            count_same
                (cached (suc k))
                (cached k)
                N
                (λ q lq e. was k q (λ s. clash (and_right (seated h (suc k) q) (X q) e) (ap X s ∙ f)) e)
                (λ q lq e. keeps k q e),
          ))

  pub count_seated :
      (k N : ℕ) → Below h k N → Different h k →
      count (λ q. seated h k q && X q) N ≡ count (λ s. X (slice_index_or h s no_page)) k
  unfolding count
  count_seated zero N below once =
      count_none (cached 0) N (λ q l e. nobody q (seated_was h 0 q (and_left (seated h 0 q) (X q) e)))
    where
      nobody : (q : ℕ) → (s : ℕ) × (s < 0) × (slice_index_or h s no_page ≡ q) → ⊥
      nobody q w = omega (arith, w.1)
  count_seated (suc k) N below once =
      omega (
        arith,
        counted k N (below k (omega arith)) once,
        count_seated k N (λ s l. below s (omega arith)) (λ s t ls lt. once s t (omega arith) (omega arith)),
      )

-- ---- the least key

min_or : (a b : ℕ) → (min a b ≡ a) ⊎ (min a b ≡ b)
min_or a b = ⊎_elim (λ l. inl (lower l)) (λ l. inr (higher l)) (le_or_lt a b)
  where
    lower : a ≤ b → min a b ≡ a
    lower l = omega arith

    higher : b < a → min a b ≡ b
    higher l = omega arith

module _ (near keys : List ℕ) (j : ℕ) where
  pub least_le : (n s : ℕ) → s < n → slice_index_or near s 0 ≤ j → least_key near keys j n ≤ slice_index_or keys s 0
  unfolding least_key
  least_le zero s l le = absurd (omega arith)
  least_le (suc n) s l le = ⊎_elim here (λ ne. below (least_le n s (omega arith) le)) (same_or_not s n)
    where
      here : s ≡ n → least_key near keys j (suc n) ≤ slice_index_or keys s 0
      here e = rw e (rw (le-leb (slice_index_or near n 0) j (rw e at le)) (omega arith))

      below : least_key near keys j n ≤ slice_index_or keys s 0 → least_key near keys j (suc n) ≤ slice_index_or keys s 0
      below ih = omega arith

  -- a slot that has the least key
  abbrev pub Least : ℕ → Type 0
  Least n = (s : ℕ) × (s < n) × (slice_index_or near s 0 ≤ j) × (least_key near keys j n ≡ slice_index_or keys s 0)

  -- there is one, or the least key is the number that no key reaches
  abbrev Either : ℕ → Type 0
  Either n = (least_key near keys j n ≡ no_key) ⊎ Least n

  -- one slot more: the least key is the old one or this slot's
  stays : (n : ℕ) → least_key near keys j (suc n) ≡ least_key near keys j n → Either n → Either (suc n)
  stays n e (inl m) = inl (e ∙ m)
  stays n e (inr w) = inr (w.0, omega (arith, w.1), w.2, e ∙ w.3)

  abbrev own : ℕ → ℕ
  own n = if nat_le (slice_index_or near n 0) j then slice_index_or keys n 0 else no_key

  turns : (n : ℕ) → least_key near keys j (suc n) ≡ own n → Either (suc n)
  turns n e = ⊎_elim in_reach out (truth (nat_le (slice_index_or near n 0) j))
    where
      in_reach : nat_le (slice_index_or near n 0) j ≡ true → Either (suc n)
      in_reach t = inr (n, omega arith, leb-true (slice_index_or near n 0) j t, e ∙ rw t)

      out : nat_le (slice_index_or near n 0) j ≡ false → Either (suc n)
      out f = inl (e ∙ rw f)

  least_or : (n : ℕ) → Either n
  unfolding least_key
  least_or zero = inl refl
  least_or (suc n) =
      ⊎_elim (λ e. stays n e (least_or n)) (λ e. turns n e) (min_or (least_key near keys j n) (own n))

  -- a slot that is near has a key, so there is one
  pub least_is : (n s : ℕ) → s < n → slice_index_or near s 0 ≤ j → slice_index_or keys s 0 ≤ no_key → Least n
  least_is n s l le fits =
      ⊎_elim (λ e. (s, l, le, omega (arith, least_le n s l le))) (λ w. w) (least_or n)
