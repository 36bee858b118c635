-- How a request moves the layers, as one law: the requested page p goes to layer k, every other page of a layer from t on sinks
-- by one, and the pages below t stay. For p in a layer above 0 that is t = L p, for p in L_0 it is t = k; where a page takes a
-- free slot it is t = 1. All that is proved of a move is proved of this. Assumes nothing.
use Rattle.std.specs.Prelude.{Bool, true, false, cond, ◌⊎◌, ◌≡◌, refl, ℕ, zero, suc, ◌+◌, ◌-◌, min, ◌≤◌, ◌<◌, nat_eq, nat_lt}
use Rattle.std.proofs.Common.{inl, inr, ◌∙◌, arith, eq-eqb, ne_eqb, eqb-true, ltb-true, ltb-false, lt-ltb, le-ltb}
use Rattle.std.proofs.Math.Logic.{⊎_elim}
use Rattle.std.proofs.Math.Path.{sym, ap}
use Rattle.std.proofs.lemmas.Bool.{eqb-false}
use Rattle.paging.specs.Sets.{count}
use Rattle.paging.specs.Layers.{in_layer, asked_new, asked_known, next, Layered}
use Rattle.paging.specs.Best.{State, serve}
use Rattle.paging.specs.Tests.{truth, same_or_not, le_or_lt, positive}
use Rattle.paging.specs.Count.{single, count_same, count_single}
use Rattle.paging.specs.Moves.{bar}

pub record Moved (N k t p : ℕ) (L L' : ℕ → ℕ) : Type 0 where
  pub top : L' p ≡ k
  pub down : (q : ℕ) → q < N → (q ≡ p → ⊥) → t ≤ L q → L' q + 1 ≡ L q
  pub same : (q : ℕ) → q < N → (q ≡ p → ⊥) → L q < t → L' q ≡ L q

-- the same in a form that `omega` reads
pub moved_cases :
    {N k t p : ℕ} {L L' : ℕ → ℕ} →
    Moved N k t p L L' →
    (q : ℕ) →
    q < N →
    ((q ≡ p) × (L q ≡ L p) × (L' q ≡ k)) ⊎ ((q ≡ p → ⊥) × (L' q ≡ L q - min 1 (suc (L q) - t)))
moved_cases {t = t} {p = p} {L = L} {L' = L'} mv q l =
    ⊎_elim (λ e. inl (e, ap L e, ap L' e ∙ mv.top)) (λ ne. inr (ne, other ne)) (same_or_not q p)
  where
    other : (q ≡ p → ⊥) → L' q ≡ L q - min 1 (suc (L q) - t)
    other ne =
        ⊎_elim (λ h. omega (arith, mv.down q l ne h)) (λ h. omega (arith, mv.same q l ne h)) (le_or_lt t (L q))

-- ---- document 01's two rules are such moves

known_self : (k i p : ℕ) (L : ℕ → ℕ) → asked_known k i p L p ≡ k
unfolding asked_known
known_self k i p L = rw (eq-eqb p p refl)

known_down : (k i p : ℕ) (L : ℕ → ℕ) (q : ℕ) → 0 < i → (q ≡ p → ⊥) → i ≤ L q → asked_known k i p L q + 1 ≡ L q
unfolding asked_known
known_down k i p L q pos ne h = rw (ne_eqb q p ne) (go (nat_eq (L q) i) refl)
  where
    go : (x : Bool) → nat_eq (L q) i ≡ x → cond x (i - 1) (cond (nat_lt i (L q)) (L q - 1) (L q)) + 1 ≡ L q
    go true e = omega (arith, eqb-true (L q) i e)
    go false e = rw (lt-ltb i (L q) (omega (arith, eqb-false (L q) i e))) (omega arith)

known_same : (k i p : ℕ) (L : ℕ → ℕ) (q : ℕ) → (q ≡ p → ⊥) → L q < i → asked_known k i p L q ≡ L q
unfolding asked_known
known_same k i p L q ne h =
    rw (ne_eqb q p ne, ne_eqb (L q) i (λ e. omega arith), le-ltb i (L q) (omega arith))

-- p in L_i, i > 0
pub known_moved : (N k i p : ℕ) (L : ℕ → ℕ) → 0 < i → Moved N k i p L (asked_known k i p L)
known_moved N k i p L pos =
    record {
      top = known_self k i p L;
      down = λ q l ne h. known_down k i p L q pos ne h;
      same = λ q l ne h. known_same k i p L q ne h;
    }

new_self : (k p : ℕ) (L : ℕ → ℕ) → asked_new k p L p ≡ k
unfolding asked_new
new_self k p L = rw (eq-eqb p p refl)

new_down : (k p : ℕ) (L : ℕ → ℕ) (q : ℕ) → 0 < k → (q ≡ p → ⊥) → L q ≡ k → asked_new k p L q + 1 ≡ L q
unfolding asked_new
new_down k p L q pos ne e = rw (ne_eqb q p ne, eq-eqb (L q) k e) (omega arith)

new_same : (k p : ℕ) (L : ℕ → ℕ) (q : ℕ) → (q ≡ p → ⊥) → L q < k → asked_new k p L q ≡ L q
unfolding asked_new
new_same k p L q ne h = rw (ne_eqb q p ne, ne_eqb (L q) k (λ e. omega arith))

-- p in L_0
pub new_moved :
    (N k p : ℕ) (L : ℕ → ℕ) → 0 < k → ((q : ℕ) → q < N → L q ≤ k) → Moved N k k p L (asked_new k p L)
new_moved N k p L pos bounded =
    record {
      top = new_self k p L;
      down = λ q l ne h. new_down k p L q pos ne (omega (arith, bounded q l));
      same = λ q l ne h. new_same k p L q ne h;
    }

-- the layers after a request, by the layer of p
pub next_cases :
    (k p : ℕ) (L : ℕ → ℕ) (P : (ℕ → ℕ) → Type 0) →
    (0 < L p → P (asked_known k (L p) p L)) →
    (L p ≡ 0 → P (asked_new k p L)) →
    P (next k p L)
unfolding next
next_cases k p L P known new =
    ⊎_elim
    (λ e. rw e (new (eqb-true (L p) 0 e)))
    (λ e. rw e (known (positive (L p) (eqb-false (L p) 0 e))))
    (truth (nat_eq (L p) 0))

pub bar_zero : (k i : ℕ) → i ≡ 0 → bar k i ≡ k
unfolding bar
bar_zero k i e = rw e

pub bar_pos : (k i : ℕ) → 0 < i → bar k i ≡ i
unfolding bar
bar_pos k zero h = omega arith
bar_pos k (suc i) h = refl

pub bar_range : (k i : ℕ) → 0 < k → i ≤ k → (0 < bar k i) × (bar k i ≤ k)
unfolding bar
bar_range k zero h l = omega arith
bar_range k (suc i) h l = omega arith

pub next_moved :
    (N k p : ℕ) (L : ℕ → ℕ) → 0 < k → ((q : ℕ) → q < N → L q ≤ k) → Moved N k (bar k (L p)) p L (next k p L)
next_moved N k p L pos bounded =
    next_cases
    k
    p
    L
    (Moved N k (bar k (L p)) p L)
    (λ h. rw (bar_pos k (L p) h) (known_moved N k (L p) p L h))
    (λ e. rw (bar_zero k (L p) e) (new_moved N k p L pos bounded))

-- another page of L_0 stays there, also one at N or above
pub next_zero : (k p : ℕ) (L : ℕ → ℕ) (q : ℕ) → 0 < k → (q ≡ p → ⊥) → L q ≡ 0 → next k p L q ≡ 0
next_zero k p L q pos ne z =
    next_cases
    k
    p
    L
    (λ L'. L' q ≡ 0)
    (λ h. known_same k (L p) p L q ne (omega arith) ∙ z)
    (λ e. new_same k p L q ne (omega arith) ∙ z)

-- ---- what a move keeps: the layers stay layered

module _
    {N k f f' t p : ℕ}
    {L L' : ℕ → ℕ}
    (lay : Layered N k f L)
    (mv : Moved N k t p L L')
    (pN : p < N)
    (t_pos : 0 < t)
    (t_k : t ≤ k)
    -- p was in layer t, or in layer 0
    (at : (L p ≡ t) ⊎ (L p ≡ 0))
    (near : f ≤ f' + 1)
    (over : 1 < t → f ≤ f')
    (few' : f' ≤ k)
  where
    moved_bounded : (q : ℕ) → q < N → L' q ≤ k
    moved_bounded q l = ⊎_elim (λ h. omega arith) (λ h. omega (arith, lay.bounded q l)) (moved_cases mv q l)

    -- every other page is below layer k
    moved_below : (q : ℕ) → q < N → (q ≡ p → ⊥) → L' q < k
    moved_below q l ne =
        ⊎_elim (λ h. absurd (ne h.0)) (λ h. omega (arith, lay.bounded q l)) (moved_cases mv q l)

    moved_last : count (in_layer L' k) N ≡ 1
    moved_last = count_same (in_layer L' k) (single p) N there back ∙ count_single p N pN
      where
        there : (q : ℕ) → q < N → nat_eq (L' q) k ≡ true → nat_eq q p ≡ true
        there q l e =
            ⊎_elim
            (λ s. eq-eqb q p s)
            (λ ne. absurd (omega (arith, moved_below q l ne, eqb-true (L' q) k e)))
            (same_or_not q p)

        back : (q : ℕ) → q < N → nat_eq q p ≡ true → nat_eq (L' q) k ≡ true
        back q l e = eq-eqb (L' q) k (ap L' (eqb-true q p e) ∙ mv.top)

    Holds : ℕ → Type 0
    Holds j = (q : ℕ) × (q < N) × (L' q ≡ j)

    moved_filled : (j : ℕ) → f' < j → j ≤ k → Holds j
    unfolding Holds
    moved_filled j lo hi =
        ⊎_elim
        (λ h. (p, pN, mv.top ∙ omega arith))
        (λ h. ⊎_elim (upper h) under (le_or_lt t j))
        (le_or_lt k j)
      where
        -- p is in no layer between 0 and t
        not_p : (q : ℕ) → 0 < L q → (L q ≡ t → ⊥) → q ≡ p → ⊥
        not_p q pos nt e = ⊎_elim (λ h. nt (ap L e ∙ h)) (λ h. omega (arith, ap L e)) at

        upper : j < k → t ≤ j → Holds j
        upper h g =
            let (q, l, e) = lay.filled (suc j) (omega arith) h in
            (q, l, omega (arith, mv.down q l (not_p q (omega arith) (λ s. omega arith)) (omega arith)))

        under : j < t → Holds j
        under g =
            let (q, l, e) = lay.filled j (omega (arith, over (omega arith))) hi in
            (q, l, mv.same q l (not_p q (omega arith) (λ s. omega arith)) (omega arith) ∙ e)

    pub moved_layered :
        ((q : ℕ) → q < N → (q ≡ p → ⊥) → 0 < L' q → f' < L' q) →
        (0 < f' → (q u : ℕ) → q < N → u < N → (q ≡ p → ⊥) → (u ≡ p → ⊥) → 0 < L' q → L' q ≡ L' u → q ≡ u) →
        f' < k →
        Layered N k f' L'
    unfolding Holds
    moved_layered spaced apart below =
        record {
          few = few';
          bounded = moved_bounded;
          filled = moved_filled;
          last = λ _. moved_last;
          gap = λ q l g. ⊎_elim (λ e. omega (arith, ap L' e, mv.top)) (λ ne. spaced q l ne g) (same_or_not q p);
          alone = λ z q u lq lu g e. ⊎_elim (asked q u lu e) (λ nq. other z q u lq lu g e nq) (same_or_not q p);
        }
      where
        asked : (q u : ℕ) → u < N → L' q ≡ L' u → q ≡ p → q ≡ u
        asked q u lu e s =
            ⊎_elim
            (λ h. s ∙ sym h)
            (λ nu. absurd (omega (arith, ap L' s, mv.top, moved_below u lu nu)))
            (same_or_not u p)

        other : 0 < f' → (q u : ℕ) → q < N → u < N → 0 < L' q → L' q ≡ L' u → (q ≡ p → ⊥) → q ≡ u
        other z q u lq lu g e nq =
            ⊎_elim
            (λ h. absurd (omega (arith, ap L' h, mv.top, moved_below q lq nq)))
            (λ nu. apart z q u lq lu nq nu g e)
            (same_or_not u p)

-- a page that was in layer x and is in layer a
abbrev Fell : ℕ → ℕ → ℕ → Type 0
Fell t x a = ((x < t) × (a ≡ x)) ⊎ ((t ≤ x) × (a + 1 ≡ x))

-- a request that finds p in a layer above 0
pub hit_layered :
    {N k f p : ℕ} {L L' : ℕ → ℕ} → Layered N k f L → Moved N k (L p) p L L' → p < N → 0 < L p → Layered N k f L'
hit_layered {N} {k} {f} {p} {L} {L'} lay mv pN pos =
    moved_layered
    lay
    mv
    pN
    pos
    (lay.bounded p pN)
    (inl refl)
    (omega arith)
    (λ _. omega arith)
    lay.few
    spaced
    apart
    (omega (arith, lay.gap p pN pos, lay.bounded p pN))
  where
    -- while a slot is free, no other page shares the layer of p
    unshared : 0 < f → (q : ℕ) → q < N → (q ≡ p → ⊥) → L q ≡ L p → ⊥
    unshared z q l ne e = ne (lay.alone z q p l pN (omega arith) e)

    spaced : (q : ℕ) → q < N → (q ≡ p → ⊥) → 0 < L' q → f < L' q
    spaced q l ne g = ⊎_elim (λ z. omega arith) some (le_or_lt f 0)
      where
        some : 0 < f → f < L' q
        some z =
            let apart = unshared z q l ne in
            let gap_p = lay.gap p pN pos in
            ⊎_elim
            (λ h. omega (arith, mv.down q l ne h))
            (λ h. omega (arith, mv.same q l ne h, lay.gap q l (omega (arith, mv.same q l ne h))))
            (le_or_lt (L p) (L q))

    -- no two pages fall into one layer
    fell : (q : ℕ) → q < N → (q ≡ p → ⊥) → Fell (L p) (L q) (L' q)
    fell q l ne = ⊎_elim (λ h. inr (h, mv.down q l ne h)) (λ h. inl (h, mv.same q l ne h)) (le_or_lt (L p) (L q))

    level : (x y a : ℕ) → (x ≡ L p → ⊥) → (y ≡ L p → ⊥) → Fell (L p) x a → Fell (L p) y a → x ≡ y
    level x y a nx ny (inl h) (inl g) = omega arith
    level x y a nx ny (inl h) (inr g) = omega arith
    level x y a nx ny (inr h) (inl g) = omega arith
    level x y a nx ny (inr h) (inr g) = omega arith

    apart : 0 < f → (q u : ℕ) → q < N → u < N → (q ≡ p → ⊥) → (u ≡ p → ⊥) → 0 < L' q → L' q ≡ L' u → q ≡ u
    apart z q u lq lu nq nu g e = lay.alone z q u lq lu (positive (L q) was) same
      where
        was : L q ≡ 0 → ⊥
        was s = omega (arith, mv.same q lq nq (omega arith))

        same : L q ≡ L u
        same =
            level
            (L q)
            (L u)
            (L' q)
            (unshared z q lq nq)
            (unshared z u lu nu)
            (fell q lq nq)
            (rw e (fell u lu nu))

-- a request that finds p in L_0, and no slot free
pub miss_layered :
    {N k p : ℕ} {L L' : ℕ → ℕ} → Layered N k 0 L → Moved N k k p L L' → p < N → 0 < k → L p ≡ 0 → Layered N k 0 L'
miss_layered lay mv pN k_pos z =
    moved_layered
    lay
    mv
    pN
    k_pos
    (omega arith)
    (inr z)
    (omega arith)
    (λ _. omega arith)
    (omega arith)
    (λ q l ne g. g)
    (λ g. absurd (omega arith))
    k_pos

-- a request that finds p in L_0, and a slot free
pub fill_layered :
    {N k f p : ℕ} {L L' : ℕ → ℕ} → Layered N k f L → Moved N k 1 p L L' → p < N → L p ≡ 0 → 0 < f → Layered N k (f - 1) L'
fill_layered {N} {k} {f} {p} {L} {L'} lay mv pN z pos =
    moved_layered
    lay
    mv
    pN
    (omega arith)
    (omega (arith, lay.few))
    (inr z)
    (omega arith)
    (λ g. absurd (omega arith))
    (omega (arith, lay.few))
    (λ q l ne g. omega (arith, above q l ne g, lay.gap q l (omega (arith, above q l ne g))))
    (λ g q u lq lu nq nu h e.
    lay.alone pos q u lq lu (omega (arith, above q lq nq h)) (omega (arith, above q lq nq h, above u lu nu (omega arith))))
    (omega (arith, lay.few))
  where
    above : (q : ℕ) → q < N → (q ≡ p → ⊥) → 0 < L' q → L' q + 1 ≡ L q
    above q l ne g =
        ⊎_elim (λ h. mv.down q l ne h) (λ h. absurd (omega (arith, mv.same q l ne h))) (le_or_lt 1 (L q))

-- ---- a request

-- what holds after each of the three kinds of request holds after a request
pub serve_cases :
    {N k : ℕ} (s : State) (p : ℕ) (P : State → Type 0) →
    0 < k →
    Layered N k s.free s.layer →
    ((L' : ℕ → ℕ) → 0 < s.layer p → Moved N k (s.layer p) p s.layer L' → P (record { free = s.free; layer = L'; best = s.best })) →
    ((L' : ℕ → ℕ) → s.layer p ≡ 0 → s.free ≡ 0 → Moved N k k p s.layer L' → P (record { free = 0; layer = L'; best = s.best + 1 })) →
    ((L' : ℕ → ℕ) → s.layer p ≡ 0 → 0 < s.free → Moved N k 1 p s.layer L' → P (record { free = s.free - 1; layer = L'; best = s.best + 1 })) →
    P (serve k s p)
unfolding serve
serve_cases {N} {k} s p P pos lay hit miss fill = go (nat_lt 0 (s.layer p)) refl (nat_eq s.free 0) refl
  where
    new : s.layer p ≡ 0 → Moved N k k p s.layer (next k p s.layer)
    new z = rw (bar_zero k (s.layer p) z) at (next_moved N k p s.layer pos lay.bounded)

    known : 0 < s.layer p → Moved N k (s.layer p) p s.layer (next k p s.layer)
    known h = rw (bar_pos k (s.layer p) h) at (next_moved N k p s.layer pos lay.bounded)

    go : (x : Bool) → nat_lt 0 (s.layer p) ≡ x → (y : Bool) → nat_eq s.free 0 ≡ y → P (serve k s p)
    go true ex y ey = rw ex (hit (next k p s.layer) (ltb-true 0 (s.layer p) ex) (known (ltb-true 0 (s.layer p) ex)))
    go false ex true ey =
        let z : s.layer p ≡ 0 = omega (arith, ltb-false 0 (s.layer p) ex) in
        rw (ex, ey) (miss (next k p s.layer) z (eqb-true s.free 0 ey) (new z))
    go false ex false ey =
        let z : s.layer p ≡ 0 = omega (arith, ltb-false 0 (s.layer p) ex) in
        rw (ex, ey) (fill (asked_known k 1 p s.layer) z (positive s.free (eqb-false s.free 0 ey)) (known_moved N k 1 p s.layer (omega arith)))

pub serve_layered :
    {N k : ℕ} (s : State) (p : ℕ) → 0 < k → p < N → Layered N k s.free s.layer → Layered N k (serve k s p).free (serve k s p).layer
serve_layered {N} {k} s p pos pN lay =
    serve_cases
    s
    p
    (λ u. Layered N k u.free u.layer)
    pos
    lay
    (λ L' h mv. hit_layered lay mv pN h)
    (λ L' z free mv. miss_layered (rw free at lay) mv pN pos z)
    (λ L' z free mv. fill_layered lay mv pN z free)

-- the layers of a full run after a request
pub next_layered : (N k p : ℕ) (L : ℕ → ℕ) → 0 < k → Layered N k 0 L → p < N → Layered N k 0 (next k p L)
next_layered N k p L pos lay pN =
    next_cases
    k
    p
    L
    (Layered N k 0)
    (λ h. hit_layered lay (known_moved N k (L p) p L h) pN h)
    (λ z. miss_layered lay (new_moved N k p L pos lay.bounded) pN pos z)
