-- Lists and tables of values, entry by entry: how long they are, what stands where, and how a loop fills a table from the front.
-- Assumes nothing.
use Rattle.std.specs.Prelude.{List, [], ◌∷◌, ◌++◌, ◌≡◌, refl, length, set, replicate, slice_index_or}
use Rattle.std.proofs.Common.{sym, ap, ◌∙◌, add-one, length-append}
use Prim.Native.Nat.{ℕ, zero, suc, ◌+◌, ◌-◌, ◌≤◌, ◌<◌}
use native.Mathlib.Omega.{arith}
use Rattle.std.proofs.lemmas.List.{length-replicate, set-get_or}
use Rattle.paging.specs.Sets.{listed, table}

-- ---- lists

-- within a list the default does not matter
pub entry_any : {A : Type 0} (l : List A) (q : ℕ) (a b : A) → q < length l → slice_index_or l q a ≡ slice_index_or l q b
entry_any [] q a b h = absurd (omega arith)
entry_any (x ∷ xs) zero a b h = refl
entry_any (x ∷ xs) (suc q) a b h = entry_any xs q a b (omega arith)

pub listed_length : {A : Type 0} (n : ℕ) (f : ℕ → A) → length (listed n f) ≡ n
unfolding listed
listed_length zero f = refl
listed_length (suc n) f = ap suc (listed_length n (λ i. f (suc i)))

pub listed_same : {A : Type 0} (n : ℕ) (f g : ℕ → A) → ((q : ℕ) → q < n → f q ≡ g q) → listed n f ≡ listed n g
unfolding listed
listed_same zero f g h = refl
listed_same (suc n) f g h =
    rw (h 0 (omega arith), listed_same n (λ i. f (suc i)) (λ i. g (suc i)) (λ q l. h (suc q) (omega arith)))

listed_at : {A : Type 0} (n : ℕ) (f : ℕ → A) (xs : List A) (d : A) (q : ℕ) → q < n → slice_index_or (listed n f ++ xs) q d ≡ f q
unfolding listed
listed_at zero f xs d q l = absurd (omega arith)
listed_at (suc n) f xs d zero l = refl
listed_at (suc n) f xs d (suc q) l = listed_at n (λ i. f (suc i)) xs d q (omega arith)

replicate_at : {A : Type 0} (m : ℕ) (d : A) (q : ℕ) → slice_index_or (replicate m d) q d ≡ d
replicate_at zero d q = refl
replicate_at (suc m) d zero = refl
replicate_at (suc m) d (suc q) = replicate_at m d q

listed_past : {A : Type 0} (n : ℕ) (f : ℕ → A) (m : ℕ) (d : A) (q : ℕ) → n ≤ q → slice_index_or (listed n f ++ replicate m d) q d ≡ d
unfolding listed
listed_past zero f m d q l = replicate_at m d q
listed_past (suc n) f m d zero l = absurd (omega arith)
listed_past (suc n) f m d (suc q) l = listed_past n (λ i. f (suc i)) m d q (omega arith)

listed_more : {A : Type 0} (n : ℕ) (f : ℕ → A) (m : ℕ) (d : A) → set (listed n f ++ replicate (suc m) d) n (f n) ≡ listed (suc n) f ++ replicate m d
unfolding listed
listed_more zero f m d = refl
listed_more (suc n) f m d = ap (λ (t : List _). f 0 ∷ t) (listed_more n (λ i. f (suc i)) m d)

pub listed_entry : {A : Type 0} (n : ℕ) (f : ℕ → A) (d : A) (q : ℕ) → q < n → slice_index_or (listed n f) q d ≡ f q
unfolding listed
listed_entry zero f d q l = absurd (omega arith)
listed_entry (suc n) f d zero l = refl
listed_entry (suc n) f d (suc q) l = listed_entry n (λ i. f (suc i)) d q (omega arith)

-- one store into a list of f 0, f 1, ..
pub listed_set :
    (n : ℕ) (f g : ℕ → ℕ) (i v : ℕ) →
    i < n →
    v ≡ g i →
    ((j : ℕ) → j < n → (j ≡ i → ⊥) → f j ≡ g j) →
    set (listed n f) i v ≡ listed n g
unfolding listed
listed_set zero f g i v h e s = absurd (omega arith)
listed_set (suc n) f g zero v h e s =
    let tail = listed_same n (λ j. f (suc j)) (λ j. g (suc j)) (λ j l. s (suc j) (omega arith) (λ z. omega arith)) in
    rw e (ap (λ (t : List ℕ). g 0 ∷ t) tail)
listed_set (suc n) f g (suc i) v h e s =
    let tail = listed_set n (λ j. f (suc j)) (λ j. g (suc j)) i v (omega arith) e (λ j l ne. s (suc j) (omega arith) (λ z. ne (omega arith))) in
    rw (s 0 (omega arith) (λ z. omega arith)) (ap (λ (t : List ℕ). g 0 ∷ t) tail)

-- ---- tables

pub table_none : {A : Type 0} (size : ℕ) (d : A) (f : ℕ → A) → table size 0 d f ≡ replicate size d
unfolding table listed
table_none size d f = let e : size - 0 ≡ size = omega arith in rw e

module _ {A : Type 0} (size n : ℕ) (d : A) (f : ℕ → A) where
  pub table_length : n ≤ size → length (table size n d f) ≡ size
  unfolding table
  table_length h = simp (length-append, listed_length, length-replicate) (omega arith)

  pub table_at : (q : ℕ) → q < n → slice_index_or (table size n d f) q d ≡ f q
  unfolding table
  table_at q l = listed_at n f (replicate (size - n) d) d q l

  pub table_past : (q : ℕ) → n ≤ q → slice_index_or (table size n d f) q d ≡ d
  unfolding table
  table_past q l = listed_past n f (size - n) d q l

  -- one entry more
  pub table_more : n < size → set (table size n d f) n (f n) ≡ table size (suc n) d f
  unfolding table
  table_more h =
      let e : size - n ≡ suc (size - suc n) = omega arith in
      rw e (listed_more n f (size - suc n) d)

  -- the next entry where it stands already
  pub table_skip : n < size → f n ≡ d → table size n d f ≡ table size (suc n) d f
  table_skip h e =
      let same : slice_index_or (table size n d f) n d ≡ f n = table_past n (omega arith) ∙ sym e in
      sym (set-get_or (table size n d f) n d) ∙ rw same (table_more h)

pub table_same : {A : Type 0} (size n : ℕ) (d : A) (f g : ℕ → A) → ((q : ℕ) → q < n → f q ≡ g q) → table size n d f ≡ table size n d g
unfolding table
table_same size n d f g h = rw (listed_same n f g h)

-- one value throughout
pub table_only : {A : Type 0} (size n : ℕ) (d : A) → n ≤ size → table size n d (λ q. d) ≡ replicate size d
table_only size zero d h = table_none size d (λ q. d)
table_only size (suc n) d h = sym (table_skip size n d (λ q. d) h refl) ∙ table_only size n d (omega arith)

-- ---- a loop that fills an array of `size` times d from the front, one store a turn

pub fill_none : {A : Type 0} (d : A) (size : ℕ) (f : ℕ → A) → replicate size d ≡ table size 0 d f
fill_none d size f = sym (table_none size d f)

pub fill_more :
    {A : Type 0} (d : A) (size n : ℕ) (f : ℕ → A) (out : List A) (v : A) →
    n < size →
    out ≡ table size n d f →
    v ≡ f n →
    set out n v ≡ table size (n + 1) d f
fill_more d size n f out v l e g = rw (e, g, add-one n) (table_more size n d f l)

pub fill_all :
    {A : Type 0} (d : A) (size i n : ℕ) (f : ℕ → A) (out : List A) → i ≤ n → n ≤ i → out ≡ table size i d f → out ≡ table size n d f
fill_all d size i n f out a b e = let same : i ≡ n = omega arith in e ∙ ap (λ m. table size m d f) same
