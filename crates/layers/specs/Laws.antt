-- What `asked` and `sunk` leave at each entry, how long they are, and what `next` is in terms of `lowered`; when a page is
-- alone in its layer. Assumes nothing.
use Rattle.std.specs.Prelude.{false, List, [], ◌∷◌, ◌++◌, ◌≡◌, refl, ℕ, zero, suc, ◌-◌, ◌≤◌, ◌<◌, length, drop, nat_eq, slice_index_or}
use Rattle.std.proofs.Common.{⊎_elim, ap, ◌∙◌, arith, le-leb}
use Rattle.std.proofs.Math.ListN.{get_or-append}
use Rattle.std.proofs.Math.Seq.{drop-nil}
use Rattle.std.proofs.lemmas.Bool.{lt-leb}
use Rattle.paging.specs.Sets.{count, listed}
use Rattle.paging.specs.Tests.{le_or_lt}
use Rattle.paging.specs.Layers.{in_layer, next}
use Rattle.paging.specs.Moves.{bar}
use Rattle.paging.proofs.Moves.{next_moved}
use Rattle.paging.specs.Tables.{listed_length, listed_entry}
use Rattle.layers.specs.Asked.{layer_at, asked, lowered, sunk}
use Rattle.layers.specs.Seen.{alone_in}

-- a list whose first n entries are replaced by these
front_length : (n : ℕ) (f : ℕ → ℕ) (l : List ℕ) → n ≤ length l → length (listed n f ++ drop n l) ≡ length l
unfolding listed
front_length zero f l h = refl
front_length (suc n) f [] h = absurd (omega arith)
front_length (suc n) f (x ∷ l) h = ap suc (front_length n (λ i. f (suc i)) l (omega arith))

front_at : (n : ℕ) (f : ℕ → ℕ) (l : List ℕ) (q : ℕ) → q < n → slice_index_or (listed n f ++ l) q 0 ≡ f q
front_at n f l q h =
    get_or-append (listed n f) l 0 q (omega (arith, listed_length n f)) ∙ listed_entry n f 0 q h

front_past : (n : ℕ) (f : ℕ → ℕ) (l : List ℕ) (q : ℕ) → n ≤ q → slice_index_or (listed n f ++ drop n l) q 0 ≡ slice_index_or l q 0
unfolding listed
front_past zero f l q h = refl
front_past (suc n) f l zero h = absurd (omega arith)
front_past (suc n) f [] (suc q) h = rw (drop-nil n) at (front_past n (λ i. f (suc i)) [] q (omega arith))
front_past (suc n) f (x ∷ l) (suc q) h = front_past n (λ i. f (suc i)) l q (omega arith)

-- after a request
pub asked_length :
    (N k p : ℕ) (l : List ℕ) (size : ℕ) → length l ≡ size → N ≤ size → length (asked N k p l) ≡ size
unfolding asked
asked_length N k p l size e h = front_length N (next k p (layer_at l)) l (omega arith) ∙ e

pub asked_at : (N k p : ℕ) (l : List ℕ) (q : ℕ) → q < N → slice_index_or (asked N k p l) q 0 ≡ next k p (layer_at l) q
unfolding asked
asked_at N k p l q h = front_at N (next k p (layer_at l)) (drop N l) q h

pub asked_past : (N k p : ℕ) (l : List ℕ) (q : ℕ) → N ≤ q → slice_index_or (asked N k p l) q 0 ≡ slice_index_or l q 0
unfolding asked
asked_past N k p l q h = front_past N (next k p (layer_at l)) l q h

-- after the layers from `from` on sank
pub lowered_down : (from x : ℕ) → from ≤ x → lowered from x ≡ x - 1
unfolding lowered
lowered_down from x h = rw (le-leb from x h)

pub lowered_same : (from x : ℕ) → x < from → lowered from x ≡ x
unfolding lowered
lowered_same from x h = rw (lt-leb from x h)

-- below N and away from p, a request of p lowers the layers from `bar` on
pub next_lowered :
    (N k p : ℕ) (L : ℕ → ℕ) →
    0 < k →
    ((q : ℕ) → q < N → L q ≤ k) →
    (q : ℕ) →
    q < N →
    (q ≡ p → ⊥) →
    next k p L q ≡ lowered (bar k (L p)) (L q)
next_lowered N k p L pos bounded q l ne =
    let mv = next_moved N k p L pos bounded in
    ⊎_elim
    (λ h. omega (arith, lowered_down (bar k (L p)) (L q) h, mv.down q l ne h))
    (λ h. omega (arith, lowered_same (bar k (L p)) (L q) h, mv.same q l ne h))
    (le_or_lt (bar k (L p)) (L q))

pub sunk_length :
    (from n : ℕ) (l : List ℕ) (size : ℕ) → length l ≡ size → n ≤ size → length (sunk from n l) ≡ size
unfolding sunk
sunk_length from n l size e h = front_length n (λ s. lowered from (slice_index_or l s 0)) l (omega arith) ∙ e

pub sunk_at : (from n : ℕ) (l : List ℕ) (q : ℕ) → q < n → slice_index_or (sunk from n l) q 0 ≡ lowered from (slice_index_or l q 0)
unfolding sunk
sunk_at from n l q h = front_at n (λ s. lowered from (slice_index_or l s 0)) (drop n l) q h

pub sunk_past : (from n : ℕ) (l : List ℕ) (q : ℕ) → n ≤ q → slice_index_or (sunk from n l) q 0 ≡ slice_index_or l q 0
unfolding sunk
sunk_past from n l q h = front_past n (λ s. lowered from (slice_index_or l s 0)) l q h

-- ---- alone in its layer

module _ (N : ℕ) (L : ℕ → ℕ) (p : ℕ) where
  pub alone_not : L p ≡ 0 → false ≡ alone_in N L p
  unfolding alone_in
  alone_not z = rw (lt-leb 1 (L p) (omega arith))

  pub alone_told : (n : ℕ) → (L p ≡ 0 → ⊥) → n ≡ count (in_layer L (L p)) N → nat_eq n 1 ≡ alone_in N L p
  unfolding alone_in
  alone_told n ne e = rw (le-leb 1 (L p) (omega arith), e)
