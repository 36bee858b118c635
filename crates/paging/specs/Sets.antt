-- Words for the other files: sets of pages, and lists of numbers. Nothing here is about caches. Assumes nothing.
use Rattle.std.specs.Prelude.{Bool, true, false, cond, not, ◌&&◌, ◌||◌, List, [], ◌∷◌, ◌++◌, ◌≡◌, ℕ, zero, suc, ◌+◌, ◌-◌, ◌<◌, replicate, nat_eq, nat_le, nat_lt, if◌then◌else◌}
use Rattle.std.proofs.Math.Option.{Option, none, some}

-- A set of pages: true of its members.
abbrev pub Pages : Type 0
Pages = ℕ → Bool

infix 45 ◌∈◌
abbrev pub ◌∈◌ : ℕ → Pages → Type 0
q ∈ S = S q ≡ true

-- Two sets have the same pages below N.
abbrev pub Same : ℕ → Pages → Pages → Type 0
Same N S T = (q : ℕ) → q < N → S q ≡ T q

-- Tests of numbers, and of what follows from a test.
infix 45 ◌=?◌
infix 45 ◌<?◌
infix 45 ◌≤?◌
infixr 20 ◌⇒◌
abbrev pub ◌=?◌ : ℕ → ℕ → Bool
a =? b = nat_eq a b

abbrev pub ◌<?◌ : ℕ → ℕ → Bool
a <? b = nat_lt a b

abbrev pub ◌≤?◌ : ℕ → ℕ → Bool
a ≤? b = nat_le a b

abbrev pub ◌⇒◌ : Bool → Bool → Bool
a ⇒ b = not a || b

-- One value or another, by a test: what stands first where the test fails.
infixr 5 unless◌give◌else◌
abbrev pub unless◌give◌else◌ : {A : Type 0} → Bool → A → A → A
unless t give a else b = cond t b a

abbrev pub bit : Bool → ℕ
bit true = 1
bit false = 0

-- How many pages below n are in S.
unfoldable pub count : Pages → ℕ → ℕ
count S zero = 0
count S (suc n) = bit (S n) + count S n

-- The pages of T that S lacks; S without the page v; S with the page p.
unfoldable pub without : Pages → Pages → Pages
without T S q = T q && not (S q)

unfoldable pub remove : ℕ → Pages → Pages
remove v S q = S q && not (q =? v)

unfoldable pub insert : ℕ → Pages → Pages
insert p S q = S q || q =? p

-- Each number below n is in f.
unfoldable pub each : ℕ → (ℕ → Bool) → Bool
each zero f = true
each (suc n) f = each n f && f n

-- Some number below n is in f.
unfoldable pub any : ℕ → (ℕ → Bool) → Bool
any zero f = false
any (suc n) f = any n f || f n

-- The first of two, or the second where there is no first.
abbrev pub or_else : Option ℕ → Option ℕ → Option ℕ
or_else (some a) b = some a
or_else none b = b

-- The smallest number below n that is in f, if there is one.
unfoldable pub first : ℕ → (ℕ → Bool) → Option ℕ
first zero f = none
first (suc n) f = or_else (first n f) (if f n then some n else none)

-- The lowest-ranking page of X: the one that every other page of X outranks. `o a b` says that a outranks b.
unfoldable pub lowest : ℕ → (ℕ → ℕ → Bool) → Pages → Option ℕ
lowest N o X = first N (λ v. X v && each N (λ q. X q ⇒ q =? v || o q v))

-- f 0, f 1, .., f (n - 1)
unfoldable pub listed : {A : Type 0} → ℕ → (ℕ → A) → List A
listed zero f = []
listed (suc n) f = f 0 ∷ listed n (λ i. f (suc i))

-- A table of `size` entries: f of each number below n, and d from n on.
unfoldable pub table : {A : Type 0} → ℕ → ℕ → A → (ℕ → A) → List A
table size n d f = listed n f ++ replicate (size - n) d

-- Every entry of a list is x.
unfoldable pub only : ℕ → List ℕ → Bool
only x [] = true
only x (y ∷ ys) = y =? x && only x ys
