-- Marks of the pages in the slots: what one turn of the loop adds, and what it says of a page that is refused. Assumes nothing.
use mathlib.Core.Bool.{Bool, true, false}
use mathlib.Core.List.{List}
use mathlib.Core.Logic.{⊎_elim}
use mathlib.Core.Path.{◌≡◌, sym, ap, ◌∙◌}
use Prim.Native.Nat.{ℕ, suc, ◌+◌, ◌≤◌, ◌<◌, zero-le}
use native.Mathlib.Numerals.{add-one}
use native.Mathlib.Omega.{arith}
use lib.ListN.{length, get_or, set, replicate, length-set, length-replicate}
use lib.Seq.{get_or-set_same, get_or-set_other, ext_get_or}
use Rattle.paging.specs.Sets.{table}
use Rattle.paging.specs.Tests.{clash, isnt, same_test, same_or_not, le_or_lt}
use Rattle.paging.specs.Tables.{entry_any, table_at, table_past, table_length, fill_none}
use Rattle.slots.specs.Slots.{no_page, seated}
use Rattle.slots.specs.Laws.{Below, Different, seated_in, seated_was}
use Rattle.certify.specs.Tables.{seats_fit}
use Rattle.certify.specs.Laws.{seats_below, seats_differ, seats_in}

-- ---- an array as it is made

pub replicate_at : {A : Type 0} (n : ℕ) (d : A) (q : ℕ) → get_or (replicate n d) q d ≡ d
replicate_at n d q = rw (fill_none d n (λ i. d)) (table_past n 0 d (λ i. d) q zero-le)

-- ---- marks of the pages in the slots below s, which are different pages below N

pub record Marked (N : ℕ) (held : List ℕ) (marks : List Bool) (s : ℕ) : Type 0 where
  pub size : length marks ≡ 1024
  pub marked : (q : ℕ) → get_or marks q false ≡ seated held s q
  pub below : Below held s N
  pub differ : Different held s

nobody : (held : List ℕ) (q : ℕ) → seated held 0 q ≡ false
nobody held q = isnt (seated held 0 q) (λ e. let (t, l, u) = seated_was held 0 q e in omega arith)

pub marked_none : (N : ℕ) (held : List ℕ) (marks : List Bool) → marks ≡ replicate 1024 false → Marked N held marks 0
marked_none N held marks e =
    record {
      size = ap length e ∙ length-replicate 1024 false;
      marked = λ q. rw e (replicate_at 1024 false q ∙ sym (nobody held q));
      below = λ t l. absurd (omega arith);
      differ = λ t u lt lu h. absurd (omega arith);
    }

module _ (N : ℕ) (held : List ℕ) (marks : List Bool) (s page : ℕ) (l : s < length held) (same : page ≡ get_or held s 0) (w : Marked N held marks s) where
  page_is : get_or held s no_page ≡ page
  page_is = entry_any held s no_page 0 l ∙ sym same

  pub marked_more : N ≤ 1024 → page < N → get_or marks page false ≡ false → Marked N held (set marks page true) (s + 1)
  marked_more fits lp fresh =
      rw (add-one s)
      (record {
        size = length-set marks page true ∙ w.size;
        marked = λ q. ⊎_elim (λ h. here q h) (λ h. other q h) (same_or_not q page);
        below = λ t lt. ⊎_elim (λ h. omega (arith, at t h)) (λ h. w.below t (omega arith)) (same_or_not t s);
        differ = differ;
      })
    where
      at : (t : ℕ) → t ≡ s → get_or held t no_page ≡ page
      at t h = ap (λ (i : ℕ). get_or held i no_page) h ∙ page_is

      here : (q : ℕ) → q ≡ page → get_or (set marks page true) q false ≡ seated held (suc s) q
      here q h =
          rw h
          (get_or-set_same marks page true false (omega (arith, w.size))
          ∙ sym (seated_in held (suc s) page s (omega arith) page_is))

      there : (q : ℕ) → seated held s q ≡ true → seated held (suc s) q ≡ true
      there q e = let (t, lt, u) = seated_was held s q e in seated_in held (suc s) q t (omega arith) u

      back : (q : ℕ) → (q ≡ page → ⊥) → (t : ℕ) × (t < suc s) × (get_or held t no_page ≡ q) → seated held s q ≡ true
      back q ne u =
          ⊎_elim
          (λ h. absurd (ne (sym u.2 ∙ at u.0 h)))
          (λ h. seated_in held s q u.0 (omega (arith, u.1)) u.2)
          (same_or_not u.0 s)

      other : (q : ℕ) → (q ≡ page → ⊥) → get_or (set marks page true) q false ≡ seated held (suc s) q
      other q ne =
          get_or-set_other marks page q true false ne
          ∙ (w.marked q
          ∙ same_test (seated held s q) (seated held (suc s) q) (there q) (λ e. back q ne (seated_was held (suc s) q e)))

      -- no earlier slot holds the page
      new : (t : ℕ) → t < s → get_or held t no_page ≡ page → ⊥
      new t lt e = clash (w.marked page ∙ seated_in held s page t lt e) fresh

      differ : Different held (suc s)
      differ t u lt lu e =
          ⊎_elim
          (λ ht. ⊎_elim (λ hu. ht ∙ sym hu) (λ hu. absurd (new u (omega arith) (sym e ∙ at t ht))) (same_or_not u s))
          (λ ht.
          ⊎_elim
          (λ hu. absurd (new t (omega arith) (e ∙ at u hu)))
          (λ hu. w.differ t u (omega arith) (omega arith) e)
          (same_or_not u s))
          (same_or_not t s)

  -- a number that is no page, and a page that stands twice
  pub no_seat : (k : ℕ) → s < k → N ≤ page → false ≡ seats_fit N k held
  no_seat k lk h = sym (isnt (seats_fit N k held) (λ e. omega (arith, seats_below N k held e s lk, page_is)))

  pub twice : (k : ℕ) → s < k → get_or marks page false ≡ true → false ≡ seats_fit N k held
  twice k lk m = sym (isnt (seats_fit N k held) (λ e. again e (seated_was held s page (sym (w.marked page) ∙ m))))
    where
      again : seats_fit N k held ≡ true → (t : ℕ) × (t < s) × (get_or held t no_page ≡ page) → ⊥
      again e u = omega (arith, u.1, seats_differ N k held e u.0 s (omega (arith, u.1)) lk (u.2 ∙ sym page_is))

module _ (N k : ℕ) (held : List ℕ) (marks : List Bool) (done : Marked N held marks k) where
  pub seats_all : true ≡ seats_fit N k held
  seats_all = sym (seats_in N k held done.below done.differ)

  pub marks_all : N ≤ 1024 → marks ≡ table 1024 N false (seated held k)
  marks_all fits =
      ext_get_or
      false
      marks
      (table 1024 N false (seated held k))
      (done.size ∙ sym (table_length 1024 N false (seated held k) fits))
      (λ q l. ⊎_elim (λ h. past q h) (λ h. done.marked q ∙ sym (table_at 1024 N false (seated held k) q h)) (le_or_lt N q))
    where
      none_past : (q : ℕ) → N ≤ q → (t : ℕ) × (t < k) × (get_or held t no_page ≡ q) → ⊥
      none_past q h u = omega (arith, u.2, done.below u.0 u.1)

      past : (q : ℕ) → N ≤ q → get_or marks q false ≡ get_or (table 1024 N false (seated held k)) q false
      past q h =
          done.marked q
          ∙ (isnt (seated held k q) (λ e. none_past q h (seated_was held k q e))
          ∙ sym (table_past 1024 N false (seated held k) q h))
