-- How many pages a set has below a bound. A proof about sizes is a proof about members:
--     count-mono       f is inside g                        count f ≤ count g
--     count_same       f and g have the same members        count f ≡ count g
--     count-cover      f is inside g and h together         count f ≤ count g + count h
--     count-disjoint   f and g are apart, and inside h      count f + count g ≤ count h
--     count_most       a set has no more than all           count f n ≤ n
--     count_none       f has no member                      count f ≡ 0
--     count-single     {p}                                  1
--     count-one        all members are equal                count f ≤ 1
--     count-some       a count that is not 0                a member
--     count_less       f is inside g, which has one more    count f < count g
--     count-minus      f is g but for one member            count g ≡ count f + 1
--     inside-same      f is inside g, and not smaller       f and g are the same
-- Membership is an equation, `f q ≡ true`, so that `cc` can reason with it. Assumes nothing.
use Rattle.std.specs.Prelude.{Bool, true, false, not, ◌⊎◌, ◌≡◌, refl, ℕ, zero, suc, ◌+◌, ◌-◌, ◌≤◌, ◌<◌, nat_eq}
use Rattle.std.proofs.Math.Logic.{inl, inr, ⊎_elim}
use Rattle.std.proofs.Common.{sym, ap, subst, ◌∙◌, le_antisymm, add-zero, arith}
use borrow.Author.Tests.{eqb-true, eq-eqb, ne_eqb, not-true}
use Rattle.paging.specs.Sets.{Pages, ◌∈◌, Same, bit, count, without, remove, insert}
use Rattle.paging.specs.Tests.{truth, clash, isnt, is, bit_le, same_test, and_left, and_right, or_left, or_right, or_cases, same_or_not}

-- the set of one page
abbrev pub single : ℕ → Pages
single p = λ q. nat_eq q p

-- f is inside g, as far as the pages below n go
abbrev pub Inside : ℕ → Pages → Pages → Type 0
Inside n f g = (q : ℕ) → q < n → q ∈ f → q ∈ g

-- f has a member below n, f has none
abbrev pub Some : Pages → ℕ → Type 0
Some f n = (q : ℕ) × (q < n) × (q ∈ f)

abbrev pub None : Pages → ℕ → Type 0
None f n = (q : ℕ) → q < n → q ∈ f → ⊥

-- ---- the one induction: an inequality of the members' bits, summed

sum_bits :
    (a b c d : Pages) (n : ℕ) →
    ((q : ℕ) → q < n → bit (a q) + bit (b q) ≤ bit (c q) + bit (d q)) →
    count a n + count b n ≤ count c n + count d n
unfolding count
sum_bits a b c d zero h = omega arith
sum_bits a b c d (suc n) h = omega (arith, sum_bits a b c d n (λ q l. h q (omega arith)), h n (omega arith))

empty : Pages
empty q = false

count_empty : (n : ℕ) → count empty n ≡ 0
unfolding count empty
count_empty zero = refl
count_empty (suc n) = omega (arith, count_empty n)

bit_mono : (x y : Bool) → (x ≡ true → y ≡ true) → bit x + 0 ≤ bit y + 0
bit_mono false y h = omega arith
bit_mono true true h = omega arith
bit_mono true false h = absurd (clash (h refl) refl)

bit_cover : (x y z : Bool) → (x ≡ true → (y ≡ true) ⊎ (z ≡ true)) → bit x + 0 ≤ bit y + bit z
bit_cover false y z h = omega arith
bit_cover true true z h = omega arith
bit_cover true false true h = omega arith
bit_cover true false false h = absurd (⊎_elim (λ e. clash e refl) (λ e. clash e refl) (h refl))

bit_disjoint :
    (x y z : Bool) → (x ≡ true → z ≡ true) → (y ≡ true → z ≡ true) → (x ≡ true → y ≡ true → ⊥) → bit x + bit y ≤ bit z + 0
bit_disjoint false false z hx hy apart = omega arith
bit_disjoint false true true hx hy apart = omega arith
bit_disjoint false true false hx hy apart = absurd (clash (hy refl) refl)
bit_disjoint true false true hx hy apart = omega arith
bit_disjoint true false false hx hy apart = absurd (clash (hx refl) refl)
bit_disjoint true true z hx hy apart = absurd (apart refl refl)

pub count_most : (f : Pages) (n : ℕ) → count f n ≤ n
unfolding count
count_most f zero = omega arith
count_most f (suc n) = omega (arith, count_most f n, bit_le (f n))

pub count_mono : (f g : Pages) (n : ℕ) → Inside n f g → count f n ≤ count g n
unfolding empty
count_mono f g n h = omega (arith, count_empty n, sum_bits f empty g empty n (λ q l. bit_mono (f q) (g q) (h q l)))

pub count_cover :
    (f g h : Pages) (n : ℕ) → ((q : ℕ) → q < n → q ∈ f → (q ∈ g) ⊎ (q ∈ h)) → count f n ≤ count g n + count h n
unfolding empty
count_cover f g h n c = omega (arith, count_empty n, sum_bits f empty g h n (λ q l. bit_cover (f q) (g q) (h q) (c q l)))

pub count_disjoint :
    (f g h : Pages) (n : ℕ) →
    Inside n f h →
    Inside n g h →
    ((q : ℕ) → q < n → q ∈ f → q ∈ g → ⊥) →
    count f n + count g n ≤ count h n
unfolding empty
count_disjoint f g h n a b apart =
    omega (arith, count_empty n, sum_bits f g h empty n (λ q l. bit_disjoint (f q) (g q) (h q) (a q l) (b q l) (apart q l)))

-- ---- what follows of it

pub count_same : (f g : Pages) (n : ℕ) → Inside n f g → Inside n g f → count f n ≡ count g n
count_same f g n h k = le_antisymm (count_mono f g n h) (count_mono g f n k)

pub same_count : (f g : Pages) (n : ℕ) → Same n f g → count f n ≡ count g n
same_count f g n same = count_same f g n (λ q l e. sym (same q l) ∙ e) (λ q l e. same q l ∙ e)

pub count_none : (f : Pages) (n : ℕ) → None f n → count f n ≡ 0
count_none f n none = omega (arith, count_empty n, count_mono f empty n (λ q l e. absurd (none q l e)))

-- a page at n or above adds nothing
single_above : (p n : ℕ) → n ≤ p → count (single p) n ≡ 0
single_above p n l = count_none (single p) n (λ q lq e. omega (arith, eqb-true q p e))

pub count_single : (p n : ℕ) → p < n → count (single p) n ≡ 1
unfolding count
count_single p zero l = omega arith
count_single p (suc n) l = ⊎_elim here (λ ne. below ne (count_single p n (omega arith))) (same_or_not p n)
  where
    here : p ≡ n → count (single p) (suc n) ≡ 1
    here e = rw (eq-eqb n p (sym e)) (omega (arith, single_above p n (omega arith)))

    below : (p ≡ n → ⊥) → count (single p) n ≡ 1 → count (single p) (suc n) ≡ 1
    below ne ih = rw (ne_eqb n p (λ e. ne (sym e))) (omega arith)

-- the one page of `single p` is p, so that it is wherever p is
pub single_inside : (p n : ℕ) (f : Pages) → p ∈ f → Inside n (single p) f
single_inside p n f e q l s = ap f (eqb-true q p s) ∙ e

pub count_pos : (f : Pages) (n p : ℕ) → p < n → p ∈ f → 0 < count f n
count_pos f n p l e = omega (arith, count_single p n l, count_mono (single p) f n (single_inside p n f e))

-- one member more, a larger count
pub count_less : (f g : Pages) (n v : ℕ) → v < n → f v ≡ false → v ∈ g → Inside n f g → count f n < count g n
count_less f g n v l fv gv h = omega (arith, count_single v n l, more)
  where
    more : count f n + count (single v) n ≤ count g n
    more =
        count_disjoint f (single v) g n h (single_inside v n g gv) (λ q lq e s. clash e (ap f (eqb-true q v s) ∙ fv))

-- f is g without its member v
pub count_minus :
    (f g : Pages) (n v : ℕ) →
    v < n →
    f v ≡ false →
    v ∈ g →
    Inside n f g →
    ((q : ℕ) → q < n → (q ≡ v → ⊥) → q ∈ g → q ∈ f) →
    count g n ≡ count f n + 1
count_minus f g n v l fv gv h k = omega (arith, count_less f g n v l fv gv h, count_single v n l, most)
  where
    most : count g n ≤ count f n + count (single v) n
    most =
        count_cover
        g
        f
        (single v)
        n
        (λ q lq e. ⊎_elim (λ s. inr (eq-eqb q v s)) (λ ne. inl (k q lq ne e)) (same_or_not q v))

-- a set has a member or none
none_more : (f : Pages) (n : ℕ) → f n ≡ false → None f n → None f (suc n)
none_more f n e none q l t = ⊎_elim (λ s. clash t (rw s e)) (λ ne. none q (omega arith) t) (same_or_not q n)

pub some_or_none : (f : Pages) (n : ℕ) → Some f n ⊎ None f n
some_or_none f zero = inr (λ q l e. omega arith)
some_or_none f (suc n) = ⊎_elim (λ t. inl (n, omega arith, t)) (λ e. more e (some_or_none f n)) (truth (f n))
  where
    more : f n ≡ false → Some f n ⊎ None f n → Some f (suc n) ⊎ None f (suc n)
    more e (inl s) = inl (s.0, omega arith, s.2)
    more e (inr none) = inr (none_more f n e none)

pub count_some : (f : Pages) (n : ℕ) → 0 < count f n → Some f n
count_some f n pos = ⊎_elim (λ s. s) (λ none. absurd (omega (arith, count_none f n none))) (some_or_none f n)

-- a set whose members are all equal has one at most
pub count_one :
    (f : Pages) (n : ℕ) → ((q u : ℕ) → q < n → u < n → q ∈ f → u ∈ f → q ≡ u) → count f n ≤ 1
count_one f n same = ⊎_elim one (λ none. omega (arith, count_none f n none)) (some_or_none f n)
  where
    one : Some f n → count f n ≤ 1
    one s =
        let (v, l, e) = s in
        omega (arith, count_single v n l, count_mono f (single v) n (λ q lq m. eq-eqb q v (same q v lq l m e)))

-- a page that is in g and not in f would make g the larger
pub inside_same : (f g : Pages) (n : ℕ) → Inside n f g → count g n ≤ count f n → Same n f g
inside_same f g n h le q l = same_test (f q) (g q) (h q l) back
  where
    back : q ∈ g → q ∈ f
    back e = is (f q) (λ out. omega (arith, count_less f g n q l out e h))

-- ---- the first member from a on

pub record First (f : Pages) (a j : ℕ) : Type 0 where
  pub from : a ≤ j
  pub member : f j ≡ true
  pub before_it : (i : ℕ) → a ≤ i → i < j → f i ≡ false

first_later : (f : Pages) (a j : ℕ) → f a ≡ false → First f (suc a) j → First f a j
first_later f a j e w =
    record {
      from = omega (arith, w.from);
      member = w.member;
      before_it = λ i ai ij. ⊎_elim (λ s. rw s e) (λ s. w.before_it i (omega arith) ij) (same_or_not i a);
    }

first_here : (f : Pages) (a : ℕ) → f a ≡ true → First f a a
first_here f a e = record { from = omega arith; member = e; before_it = λ i ai ia. absurd (omega arith) }

first_within : (f : Pages) (d a : ℕ) → f (a + d) ≡ true → (j : ℕ) × (j ≤ a + d) × First f a j
first_within f zero a e =
    let h : f a ≡ true = rw add-zero at e in
    (a, omega arith, first_here f a h)
first_within f (suc d) a e =
    let h : f (suc a + d) ≡ true = subst (λ (x : ℕ). f x ≡ true) (omega arith) e in
    let s = first_within f d (suc a) h in
    ⊎_elim
    (λ t. (a, omega arith, first_here f a t))
    (λ u. (s.0, omega arith, first_later f a s.0 u s.2))
    (truth (f a))

pub first_from : (f : Pages) (a b : ℕ) → a ≤ b → f b ≡ true → (j : ℕ) × (j ≤ b) × First f a j
first_from f a b ab fb =
    let h : f (a + (b - a)) ≡ true = subst (λ (x : ℕ). f x ≡ true) (omega arith) fb in
    let s = first_within f (b - a) a h in
    (s.0, omega arith, s.2)

-- ---- taking a member out, putting one in

module _ (v : ℕ) (f : Pages) where
  pub remove_in : (q : ℕ) → q ∈ f → (q ≡ v → ⊥) → q ∈ remove v f
  unfolding remove
  remove_in q e ne = rw (e, ne_eqb q v ne)

  pub remove_was : (q : ℕ) → q ∈ remove v f → q ∈ f
  unfolding remove
  remove_was q e = and_left (f q) (not (nat_eq q v)) e

  pub remove_not : (q : ℕ) → q ∈ remove v f → q ≡ v → ⊥
  unfolding remove
  remove_not q e s = clash (eq-eqb q v s) (not-true (nat_eq q v) (and_right (f q) (not (nat_eq q v)) e))

  pub remove_self : remove v f v ≡ false
  remove_self = isnt (remove v f v) (λ e. remove_not v e refl)

  pub count_remove : (n : ℕ) → v < n → v ∈ f → count f n ≡ count (remove v f) n + 1
  count_remove n l e =
      count_minus (remove v f) f n v l remove_self e (λ q _ h. remove_was q h) (λ q _ ne h. remove_in q h ne)

  pub insert_self : v ∈ insert v f
  unfolding insert
  insert_self = or_right (f v) (nat_eq v v) (eq-eqb v v refl)

  pub insert_in : (q : ℕ) → q ∈ f → q ∈ insert v f
  unfolding insert
  insert_in q e = or_left (f q) (nat_eq q v) e

  pub insert_cases : (q : ℕ) → q ∈ insert v f → (q ≡ v) ⊎ (q ∈ f)
  unfolding insert
  insert_cases q e = ⊎_elim inr (λ h. inl (eqb-true q v h)) (or_cases (f q) (nat_eq q v) e)

  pub insert_was : (q : ℕ) → (q ≡ v → ⊥) → q ∈ insert v f → q ∈ f
  insert_was q ne e = ⊎_elim (λ s. absurd (ne s)) (λ h. h) (insert_cases q e)

  pub count_insert : (n : ℕ) → v < n → f v ≡ false → count (insert v f) n ≡ count f n + 1
  count_insert n l out =
      count_minus f (insert v f) n v l out insert_self (λ q _ e. insert_in q e) (λ q _ ne e. insert_was q ne e)

-- ---- the pages of one set that another lacks

module _ (g f : Pages) where
  pub without_in : (q : ℕ) → q ∈ g → f q ≡ false → q ∈ without g f
  unfolding without
  without_in q a b = rw (a, b)

  pub without_was : (q : ℕ) → q ∈ without g f → q ∈ g
  unfolding without
  without_was q e = and_left (g q) (not (f q)) e

  pub without_not : (q : ℕ) → q ∈ without g f → f q ≡ false
  unfolding without
  without_not q e = not-true (f q) (and_right (g q) (not (f q)) e)

  -- no member in the difference: every member of g is in f
  pub without_none : (q : ℕ) → (q ∈ without g f → ⊥) → q ∈ g → q ∈ f
  without_none q none a = ⊎_elim (λ t. t) (λ u. absurd (none (without_in q a u))) (truth (f q))

  -- g has more members than f: one that f has not
  pub count_extra : (n : ℕ) → count f n < count g n → Some (without g f) n
  count_extra n more = ⊎_elim (λ s. s) (λ none. absurd (fewer none)) (some_or_none (without g f) n)
    where
      fewer : None (without g f) n → ⊥
      fewer none = omega (arith, count_mono g f n (λ q l a. without_none q (none q l) a))

-- ---- all pages

pub count_all : (n : ℕ) → count (λ q. true) n ≡ n
unfolding count
count_all zero = refl
count_all (suc n) = omega (arith, count_all n)
