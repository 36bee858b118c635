-- The default priorities: no two are equal, by one test that is computed over the whole table. Assumes nothing.
use Rattle.std.specs.Prelude.{Bool, true, false, List, [], ◌∷◌, map, ◌≡◌, refl, ℕ, zero, suc, ◌+◌, ◌*◌, ◌%◌, ◌/◌, ◌<◌, T, length, nat_eq, slice_index_or}
use Rattle.std.proofs.Common.{sym, ap, subst, ◌∙◌, add-zero, add-suc, suc-add, zero-add, arith, eqb→eq}
use Rattle.std.proofs.Math.Nat.{add-mul-mod_self_right, mod-add-div}
use Rattle.ranking.specs.Defaults.{default_priority}

-- n entries of the table, from entry i on
abbrev pub entries : ℕ → ℕ → List ℕ
entries zero i = []
entries (suc n) i = ((389 * i + 71) % 1024) ∷ entries n (suc i)

-- ---- a test of every entry

abbrev both : Bool → Bool → Bool
both true b = b
both false b = false

both_left : (a b : Bool) → T (both a b) → T a
both_left true b t = tt
both_left false b t = t

both_right : (a b : Bool) → T (both a b) → T b
both_right true b t = t
both_right false b t = absurd t

-- the test f passes at each entry of the list and its place, counted from i
abbrev every : (ℕ → ℕ → Bool) → ℕ → List ℕ → Bool
every f i [] = true
every f i (x ∷ xs) = both (f i x) (every f (suc i) xs)

every_at :
    (f : ℕ → ℕ → Bool) (xs : List ℕ) (i : ℕ) → T (every f i xs) → (k : ℕ) → k < length xs → T (f (i + k) (slice_index_or xs k 0))
every_at f [] i t k h = absurd (omega arith)
every_at f (x ∷ xs) i t zero h =
    subst (λ (m : ℕ). T (f m x)) (sym (add-zero i)) (both_left (f i x) (every f (suc i) xs) t)
every_at f (x ∷ xs) i t (suc k) h =
    subst
    (λ (m : ℕ). T (f m (slice_index_or xs k 0)))
    (suc-add i k ∙ sym (add-suc i k))
    (every_at f xs (suc i) (both_right (f i x) (every f (suc i) xs) t) k (omega arith))

-- entry x at place k follows the formula, and x gives k back: 845 is the inverse of 389, and 953 the rest
right : ℕ → ℕ → Bool
right k x = both (nat_eq x ((389 * k + 71) % 1024)) (nat_eq (845 * (x + 953) % 1024) k)

table : List ℕ
table = entries 1024 0

right_at : (k : ℕ) → k < 1024 → T (right k (slice_index_or table k 0))
unfolding right table
right_at k h = subst (λ (m : ℕ). T (right m (slice_index_or table k 0))) (zero-add k) (every_at right table 0 tt k h)

entry : (k : ℕ) → k < 1024 → slice_index_or table k 0 ≡ (389 * k + 71) % 1024
unfolding right
entry k h =
    eqb→eq
    (slice_index_or table k 0)
    ((389 * k + 71) % 1024)
    (both_left (nat_eq (slice_index_or table k 0) ((389 * k + 71) % 1024)) (nat_eq (845 * (slice_index_or table k 0 + 953) % 1024) k) (right_at k h))

back : (k : ℕ) → k < 1024 → 845 * (slice_index_or table k 0 + 953) % 1024 ≡ k
unfolding right
back k h =
    eqb→eq
    (845 * (slice_index_or table k 0 + 953) % 1024)
    k
    (both_right (nat_eq (slice_index_or table k 0) ((389 * k + 71) % 1024)) (nat_eq (845 * (slice_index_or table k 0 + 953) % 1024) k) (right_at k h))

-- ---- what it shows

-- each entry of the table is the formula at its place
pub entry_is : (k : ℕ) → k < 1024 → slice_index_or (entries 1024 0) k 0 ≡ default_priority k
unfolding default_priority table
entry_is k h = entry k h

-- no two entries are equal
pub default_different : (i j : ℕ) → i < 1024 → j < 1024 → default_priority i ≡ default_priority j → i ≡ j
unfolding default_priority
default_different i j li lj e =
    let same : slice_index_or table i 0 ≡ slice_index_or table j 0 = entry i li ∙ (e ∙ sym (entry j lj)) in
    sym (back i li) ∙ (ap (λ (x : ℕ). 845 * (x + 953) % 1024) same ∙ back j lj)

-- behind its last entry the table begins again
pub default_again : (i : ℕ) → default_priority (i % 1024) ≡ default_priority i
unfolding default_priority
default_again i =
    sym (add-mul-mod_self_right (389 * (i % 1024) + 71) (389 * (i / 1024)) 1024) ∙ ap (λ (x : ℕ). x % 1024) whole
  where
    whole : 389 * (i % 1024) + 71 + 389 * (i / 1024) * 1024 ≡ 389 * i + 71
    whole = omega (arith, mod-add-div i 1024)

-- Entries 0 to 3 are 71, 460, 849, 214; entry 1023 is 706.
pub default_entries : map default_priority (0 ∷ 1 ∷ 2 ∷ 3 ∷ 1023 ∷ []) ≡ 71 ∷ 460 ∷ 849 ∷ 214 ∷ 706 ∷ []
unfolding default_priority
default_entries = refl
