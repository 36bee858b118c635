-- Tables that a loop or a store changes, entry by entry: `sunk`, `asked` and `seen_marks`. Assumes nothing.
use mathlib.Core.Bool.{Bool, true, false, ◌||◌}
use mathlib.Core.List.{List, [], ◌∷◌, ◌++◌, append-nil}
use Rattle.std.proofs.lemmas.List.{get_or-take}
use mathlib.Core.Path.{◌≡◌, refl, sym, ap, ◌∙◌}
use Prim.Native.Nat.{ℕ, zero, suc, ◌+◌, ◌≤◌, ◌<◌}
use native.Mathlib.Numerals.{add-one}
use native.Mathlib.Omega.{arith}
use lib.Dec.{eqb}
use lib.ListN.{length, get_or, set, take, drop, drop_of_length-le, length-take, replicate}
use lib.Seq.{set-append_left}
use borrow.Author.Tests.{eq-eqb, ne_eqb}
use Rattle.paging.specs.Sets.{bit, any, each, listed}
use Rattle.paging.specs.Tests.{or_right}
use Rattle.paging.specs.Layers.{in_layer, next}
use Rattle.paging.specs.Moves.{bar}
use Rattle.paging.proofs.Moves.{next_moved}
use Rattle.layers.specs.Asked.{layer_at, asked, lowered, sunk}
use Rattle.layers.specs.Seen.{seen_marks}
use Rattle.std.specs.List.{list_all}
use Rattle.layers.proofs.Passes.{each_same, each_marked}
use Rattle.layers.specs.Laws.{sunk_past, next_lowered}
use Rattle.paging.specs.Tables.{listed_length, listed_same, listed_entry, listed_set}

-- ---- sink: one entry more is lowered

front_step :
    (f : ℕ → ℕ) (l : List ℕ) (q : ℕ) → q < length l → set (listed q f ++ drop q l) q (f q) ≡ listed (suc q) f ++ drop (suc q) l
unfolding listed
front_step f [] q h = absurd (omega arith)
front_step f (x ∷ l) zero h = refl
front_step f (x ∷ l) (suc q) h = ap (λ (t : List ℕ). f 0 ∷ t) (front_step (λ i. f (suc i)) l q (omega arith))

sunk_suc : (from : ℕ) (l : List ℕ) (q : ℕ) → q < length l → set (sunk from q l) q (lowered from (get_or l q 0)) ≡ sunk from (suc q) l
unfolding sunk
sunk_suc from l q h = front_step (λ s. lowered from (get_or l s 0)) l q h

pub sunk_none : (from : ℕ) (l : List ℕ) → l ≡ sunk from 0 l
unfolding sunk listed
sunk_none from l = refl

pub sunk_step :
    (from : ℕ) (l out : List ℕ) (q v : ℕ) →
    q < length l →
    out ≡ sunk from q l →
    v ≡ lowered from (get_or out q 0) →
    set out q v ≡ sunk from (q + 1) l
sunk_step from l out q v h e g = rw (g, e, sunk_past from q l q (omega arith), add-one q) (sunk_suc from l q h)

-- the first n entries lowered by themselves, and the rest behind them
pub sunk_front :
    (from n : ℕ) (l front : List ℕ) → n ≤ length l → front ≡ sunk from n (take n l) → front ++ drop n l ≡ sunk from n l
unfolding sunk
sunk_front from n l front h e =
    let none : drop n (take n l) ≡ [] = drop_of_length-le (take n l) (omega (arith, length-take n l)) in
    let same = listed_same n (λ s. lowered from (get_or (take n l) s 0)) (λ s. lowered from (get_or l s 0)) (λ q less. ap (lowered from) (get_or-take n l q 0 less)) in
    rw (e, none, append-nil, same)

-- ---- ask: the layers sunk, and the page on top

sunk_asked :
    (N k p : ℕ) (l : List ℕ) →
    p < N →
    0 < k →
    ((q : ℕ) → q < N → layer_at l q ≤ k) →
    set (sunk (bar k (layer_at l p)) N l) p k ≡ asked N k p l
unfolding sunk asked
sunk_asked N k p l h pos bounded =
    set-append_left (listed N sinks) (drop N l) p k (omega (arith, listed_length N sinks))
    ∙ ap (λ (t : List ℕ). t ++ drop N l) below
  where
    sinks : ℕ → ℕ
    sinks s = lowered (bar k (layer_at l p)) (get_or l s 0)

    top : k ≡ next k p (layer_at l) p
    top = sym (next_moved N k p (layer_at l) pos bounded).top

    other : (q : ℕ) → q < N → (q ≡ p → ⊥) → sinks q ≡ next k p (layer_at l) q
    other q less ne = sym (next_lowered N k p (layer_at l) pos bounded q less ne)

    below : set (listed N sinks) p k ≡ listed N (next k p (layer_at l))
    below = listed_set N sinks (next k p (layer_at l)) p k h top other

pub ask_end :
    (N k p from : ℕ) (l out : List ℕ) →
    p < N →
    0 < k →
    from ≡ bar k (layer_at l p) →
    ((q : ℕ) → q < N → layer_at l q ≤ k) →
    out ≡ sunk from N l →
    set out p k ≡ asked N k p l
ask_end N k p from l out h pos e bounded g = rw (g, e) (sunk_asked N k p l h pos bounded)

-- ---- seen: one page more marks its layer

pub seen_none : (L : ℕ → ℕ) → replicate 256 0 ≡ seen_marks 0 L
unfolding seen_marks any listed
seen_none L = refl

pub seen_step :
    (L : ℕ → ℕ) (q i : ℕ) (marks : List ℕ) →
    i ≡ L q →
    i < 256 →
    marks ≡ seen_marks q L →
    set marks i 1 ≡ seen_marks (q + 1) L
unfolding seen_marks any
seen_step L q i marks at h e = rw (e, add-one q) (listed_set 256 before after i 1 h here other)
  where
    before : ℕ → ℕ
    before j = bit (any q (in_layer L j))

    after : ℕ → ℕ
    after j = bit (any q (in_layer L j) || eqb (L q) j)

    here : 1 ≡ after i
    here = rw (or_right (any q (in_layer L i)) (eqb (L q) i) (eq-eqb (L q) i (sym at)))

    keep : (b : Bool) → bit b ≡ bit (b || false)
    keep true = refl
    keep false = refl

    other : (j : ℕ) → j < 256 → (j ≡ i → ⊥) → before j ≡ after j
    other j l ne = rw (ne_eqb (L q) j (λ s. ne (sym s ∙ sym at))) (keep (any q (in_layer L j)))

-- ---- filled: all the layers 1 to k are marked

marked : (b : Bool) → eqb (bit b) 1 ≡ b
marked true = refl
marked false = refl

pub filled_end :
    (N k : ℕ) (L : ℕ → ℕ) (marks : List ℕ) →
    k ≤ 64 →
    marks ≡ seen_marks N L →
    list_all (λ mark. eqb mark 1) (take k (drop 1 marks)) ≡ each k (λ j. any N (in_layer L (suc j)))
unfolding seen_marks
filled_end N k L marks h e =
    let size : length marks ≡ 256 = rw e (listed_length 256 mark) in
    each_marked marks k (omega arith)
    ∙ each_same k (λ j. eqb (get_or marks (suc j) 0) 1) (λ j. any N (in_layer L (suc j))) at_layer
  where
    mark : ℕ → ℕ
    mark j = bit (any N (in_layer L j))

    at_layer : (j : ℕ) → j < k → eqb (get_or marks (suc j) 0) 1 ≡ any N (in_layer L (suc j))
    at_layer j l = rw (e, listed_entry 256 mark 0 (suc j) (omega arith)) (marked (any N (in_layer L (suc j))))
