-- What the words of `Sets` say, as facts: each, any, first, lowest, only. Assumes nothing.
use Rattle.std.specs.Prelude.{Bool, false, cond, ◌&&◌, ◌||◌, List, [], ◌∷◌, ◌≡◌, refl, ℕ, zero, suc, ◌≤◌, ◌<◌, drop, nat_eq, slice_index_or}
use Rattle.std.proofs.Math.Bool.{true}
use Rattle.std.proofs.Math.Logic.{⊎_elim}
use Rattle.std.proofs.Math.Option.{Option, none, some, none-ne-some, some-ne-none, some-injective}
use Rattle.std.proofs.Math.Path.{Path}
use Rattle.std.proofs.Common.{ap, ◌∙◌, zero-le, arith, eqb-true, eq-eqb}
use Rattle.paging.specs.Sets.{Pages, ◌∈◌, ◌⇒◌, each, any, or_else, first, lowest, only}
use Rattle.paging.specs.Ranking.{Ranking}
use Rattle.paging.specs.Tests.{clash, isnt, and_in, and_left, and_right, or_left, or_right, or_cases, implies_true}
use Rattle.paging.specs.Tests.{implies_in, same_or_not, le_or_lt}

pub each_true : (n : ℕ) (f : ℕ → Bool) → each n f ≡ true → (i : ℕ) → i < n → f i ≡ true
unfolding each
each_true zero f e i l = absurd (omega arith)
each_true (suc n) f e i l =
    ⊎_elim
    (λ s. rw s (and_right (each n f) (f n) e))
    (λ s. each_true n f (and_left (each n f) (f n) e) i (omega arith))
    (same_or_not i n)

pub each_in : (n : ℕ) (f : ℕ → Bool) → ((i : ℕ) → i < n → f i ≡ true) → each n f ≡ true
unfolding each
each_in zero f h = refl
each_in (suc n) f h = and_in (each n f) (f n) (each_in n f (λ i l. h i (omega arith))) (h n (omega arith))

pub any_true : (n : ℕ) (f : ℕ → Bool) → any n f ≡ true → (i : ℕ) × (i < n) × (f i ≡ true)
unfolding any
any_true zero f e = absurd (clash e refl)
any_true (suc n) f e =
    ⊎_elim
    (λ h. let (i, l, u) = any_true n f h in (i, omega arith, u))
    (λ h. (n, omega arith, h))
    (or_cases (any n f) (f n) e)

pub any_in : (n : ℕ) (f : ℕ → Bool) (i : ℕ) → i < n → f i ≡ true → any n f ≡ true
unfolding any
any_in zero f i l e = absurd (omega arith)
any_in (suc n) f i l e =
    ⊎_elim
    (λ s. or_right (any n f) (f n) (rw s at e))
    (λ s. or_left (any n f) (f n) (any_in n f i (omega arith) e))
    (same_or_not i n)

pub only_true : (x n : ℕ) (xs : List ℕ) → only x (drop n xs) ≡ true → (q : ℕ) → n ≤ q → slice_index_or xs q x ≡ x
unfolding only
only_true x n [] e q l = refl
only_true x zero (y ∷ ys) e zero l = eqb-true y x (and_left (nat_eq y x) (only x ys) e)
only_true x zero (y ∷ ys) e (suc q) l = only_true x zero ys (and_right (nat_eq y x) (only x ys) e) q zero-le
only_true x (suc n) (y ∷ ys) e zero l = absurd (omega arith)
only_true x (suc n) (y ∷ ys) e (suc q) l = only_true x n ys e q (omega arith)

pub only_in : (x n : ℕ) (xs : List ℕ) → ((q : ℕ) → n ≤ q → slice_index_or xs q x ≡ x) → only x (drop n xs) ≡ true
unfolding only
only_in x zero [] h = refl
only_in x (suc n) [] h = refl
only_in x zero (y ∷ ys) h =
    and_in (nat_eq y x) (only x ys) (eq-eqb y x (h 0 zero-le)) (only_in x zero ys (λ q l. h (suc q) zero-le))
only_in x (suc n) (y ∷ ys) h = only_in x n ys (λ q l. h (suc q) (omega arith))

-- the first member
pub record IsFirst (n : ℕ) (f : ℕ → Bool) (i : ℕ) : Type 0 where
  pub below : i < n
  pub member : f i ≡ true
  pub none_before : (j : ℕ) → j < i → f j ≡ false

pub first_none : (n : ℕ) (f : ℕ → Bool) → Path (Option ℕ) (first n f) none → (j : ℕ) → j < n → f j ≡ false
unfolding first
first_none zero f e j l = absurd (omega arith)
first_none (suc n) f e j l = go (λ g. first_none n f g) (first n f) refl (f n) refl e
  where
    go : (Path (Option ℕ) (first n f) none → (j : ℕ) → j < n → f j ≡ false) → (x : Option ℕ) → Path (Option ℕ) (first n f) x → (b : Bool) → f n ≡ b → Path (Option ℕ) (or_else x (cond b (some n) none)) none → f j ≡ false
    go ih (some a) ex b eb g = absurd (some-ne-none a g)
    go ih none ex true eb g = absurd (some-ne-none n g)
    go ih none ex false eb g = ⊎_elim (λ s. rw s eb) (λ s. ih ex j (omega arith)) (same_or_not j n)

pub first_some : (n : ℕ) (f : ℕ → Bool) (i : ℕ) → Path (Option ℕ) (first n f) (some i) → IsFirst n f i
unfolding first
first_some zero f i e = absurd (none-ne-some i e)
first_some (suc n) f i e = go (λ a g. first_some n f a g) (first n f) refl (f n) refl e
  where
    go : ((a : ℕ) → Path (Option ℕ) (first n f) (some a) → IsFirst n f a) → (x : Option ℕ) → Path (Option ℕ) (first n f) x → (b : Bool) → f n ≡ b → Path (Option ℕ) (or_else x (cond b (some n) none)) (some i) → IsFirst (suc n) f i
    go ih (some a) ex b eb g =
        let s = some-injective a i g in
        let h = ih a ex in
        record { below = omega (arith, h.below); member = (rw s at h).member; none_before = λ j l. h.none_before j (omega arith) }
    go ih none ex true eb g =
        let s = some-injective n i g in
        record { below = omega arith; member = rw s at eb; none_before = λ j l. first_none n f ex j (omega arith) }
    go ih none ex false eb g = absurd (none-ne-some i g)

-- a member is not passed over
pub first_found : (n : ℕ) (f : ℕ → Bool) (i : ℕ) → i < n → f i ≡ true → (j : ℕ) × (j ≤ i) × Path (Option ℕ) (first n f) (some j)
first_found n f i l e = go (first n f) refl
  where
    go : (x : Option ℕ) → Path (Option ℕ) (first n f) x → (j : ℕ) × (j ≤ i) × Path (Option ℕ) (first n f) (some j)
    go none ex = absurd (clash e (first_none n f ex i l))
    go (some j) ex =
        let w = first_some n f j ex in
        (j, ⊎_elim (λ h. h) (λ h. absurd (clash e (w.none_before i h))) (le_or_lt j i), ex)

-- the first member is the one before which there is none
pub first_is : (n : ℕ) (f : ℕ → Bool) (i : ℕ) → IsFirst n f i → Path (Option ℕ) (first n f) (some i)
first_is n f i w =
    let (j, le, ex) = first_found n f i w.below w.member in
    ex ∙ ap some (⊎_elim (λ h. omega arith) (λ h. absurd (clash (first_some n f j ex).member (w.none_before j h))) (le_or_lt i j))

pub first_same : (n : ℕ) (f g : ℕ → Bool) → ((j : ℕ) → f j ≡ g j) → Path (Option ℕ) (first n f) (first n g)
unfolding first
first_same zero f g h = refl
first_same (suc n) f g h = rw (first_same n f g h, h n)

-- ---- the lowest-ranking page

-- v is the page of X that every other page of X outranks
pub record IsLowest (N : ℕ) (o : ℕ → ℕ → Bool) (X : Pages) (v : ℕ) : Type 0 where
  pub page : v < N
  pub member : v ∈ X
  pub below : (q : ℕ) → q < N → q ∈ X → (q ≡ v → ⊥) → o q v ≡ true

module _ (N : ℕ) (o : ℕ → ℕ → Bool) (X : Pages) where
  outranked : ℕ → Bool
  outranked v = each N (λ q. X q ⇒ (nat_eq q v || o q v))

  outranked_true : (v : ℕ) → outranked v ≡ true → (q : ℕ) → q < N → q ∈ X → (q ≡ v → ⊥) → o q v ≡ true
  unfolding outranked
  outranked_true v e q l xq ne =
      let h = implies_true (X q) (nat_eq q v || o q v) (each_true N (λ q. X q ⇒ (nat_eq q v || o q v)) e q l) xq in
      ⊎_elim (λ s. absurd (ne (eqb-true q v s))) (λ s. s) (or_cases (nat_eq q v) (o q v) h)

  outranked_in : (v : ℕ) → ((q : ℕ) → q < N → q ∈ X → (q ≡ v → ⊥) → o q v ≡ true) → outranked v ≡ true
  unfolding outranked
  outranked_in v low =
      each_in N (λ q. X q ⇒ (nat_eq q v || o q v)) (λ q l. implies_in (X q) (nat_eq q v || o q v) (λ xq. other q l xq))
    where
      other : (q : ℕ) → q < N → q ∈ X → nat_eq q v || o q v ≡ true
      other q l xq =
          ⊎_elim
          (λ s. or_left (nat_eq q v) (o q v) (eq-eqb q v s))
          (λ s. or_right (nat_eq q v) (o q v) (low q l xq s))
          (same_or_not q v)

  -- what `lowest` finds is the lowest-ranking page
  pub lowest_some : (v : ℕ) → Path (Option ℕ) (lowest N o X) (some v) → IsLowest N o X v
  unfolding lowest outranked
  lowest_some v e =
      let f = first_some N (λ v. X v && outranked v) v e in
      record {
        page = f.below;
        member = and_left (X v) (outranked v) f.member;
        below = outranked_true v (and_right (X v) (outranked v) f.member);
      }

  -- and it finds it, where there is one
  pub lowest_found : Ranking N o → (v : ℕ) → IsLowest N o X v → Path (Option ℕ) (lowest N o X) (some v)
  unfolding lowest outranked
  lowest_found ord v w =
      first_is
      N
      (λ v. X v && outranked v)
      v
      (record {
        below = w.page;
        member = and_in (X v) (outranked v) w.member (outranked_in v w.below);
        none_before = λ u l. isnt (X u && outranked u) (λ e. twice u l (and_left (X u) (outranked u) e) (and_right (X u) (outranked u) e));
      })
    where
      -- of two lowest pages each would outrank the other
      twice : (u : ℕ) → u < v → u ∈ X → outranked u ≡ true → ⊥
      twice u l xu all =
          let vu = outranked_true u all v w.page w.member (λ s. omega arith) in
          let uv = w.below u (omega (arith, w.page)) xu (λ s. omega arith) in
          ord.irreflexive u (ord.transitive u v u uv vu)
