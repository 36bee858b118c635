-- The cached set by definition, and that it is justified. Assumes nothing.
use Rattle.std.specs.Prelude.{Bool, true, false, ◌⊎◌, ◌≡◌, ℕ, zero, suc, ◌≤◌, ◌<◌, nat_eq}
use Rattle.std.proofs.Math.Logic.{inl, inr, ⊎_elim}
use Rattle.std.proofs.Math.Path.{refl}
use Rattle.std.proofs.Common.{sym, ◌∙◌, arith, eqb-true, eq-eqb}
use Rattle.paging.specs.Sets.{Pages, ◌∈◌, count, without}
use Rattle.paging.specs.Ranking.{Ranking}
use Rattle.paging.specs.Layers.{Layered}
use Rattle.paging.specs.Selection.{highest, together, chosen}
use Rattle.paging.specs.Tests.{truth, clash, isnt, or_left, or_right, or_cases, le_or_lt}
use Rattle.paging.specs.Count.{None, count_mono, count_same, count_none, count_less, some_or_none, without_was}
use Rattle.paging.specs.Count.{without_not, without_none}
use Rattle.paging.specs.Certificate.{upto, upto_in, upto_member, upto_layer, held, Witness, Justified}
use Rattle.paging.specs.Top.{top_was, top_outranks, top_count}

-- what holds of C_j: it is justified, so far as the layers up to j go
record Stage (N : ℕ) (o : ℕ → ℕ → Bool) (L : ℕ → ℕ) (j : ℕ) : Type 0 where
  size : count (chosen N o L j) N ≡ j
  low : (q : ℕ) → q < N → q ∈ chosen N o L j → L q ≤ j
  fits : (i : ℕ) → i ≤ j → held N L (chosen N o L j) i ≤ i
  why : (q : ℕ) → q < N → L q ≤ j → chosen N o L j q ≡ false → (i : ℕ) × Witness N j L o (chosen N o L j) q i

module _ (N : ℕ) (o : ℕ → ℕ → Bool) (L : ℕ → ℕ) (ord : Ranking N o) where
  none_chosen : (q : ℕ) → q ∈ chosen N o L 0 → ⊥
  unfolding chosen
  none_chosen q e = clash e refl

  stage_zero : Stage N o L 0
  stage_zero =
      let none : (i : ℕ) → held N L (chosen N o L 0) i ≡ 0
      = λ i. count_none (upto L (chosen N o L 0) i) N (λ q l u. none_chosen q (upto_member L (chosen N o L 0) i q u))
      in
      record {
        size = count_none (chosen N o L 0) N (λ q l u. none_chosen q u);
        low = λ q l u. absurd (none_chosen q u);
        fits = λ i h. omega (arith, none i);
        why = λ q l h u. (
          0,
          record {
            covers = h;
            within = omega arith;
            tight = none 0;
            outranked = λ r lr v g. absurd (none_chosen r v);
          },
        );
      }

  module _ (j : ℕ) (S : Stage N o L j) (x : ℕ) (xN : x < N) (x_layer : L x ≡ suc j) where
    abbrev C : Pages
    C = chosen N o L j

    abbrev C' : Pages
    C' = chosen N o L (suc j)

    abbrev X : Pages
    X = together L (suc j) C

    -- C' is the highest of the pool
    is_top : (q : ℕ) → C' q ≡ highest N o X (suc j) q
    unfolding chosen
    is_top q = refl

    from_pool : (q : ℕ) → q ∈ C' → q ∈ X
    from_pool q e = top_was N o X (suc j) q (sym (is_top q) ∙ e)

    pool_old : (q : ℕ) → q ∈ C → q ∈ X
    unfolding together
    pool_old q e = or_left (C q) (nat_eq (L q) (suc j)) e

    pool_new : (q : ℕ) → L q ≡ suc j → q ∈ X
    unfolding together
    pool_new q e = or_right (C q) (nat_eq (L q) (suc j)) (eq-eqb (L q) (suc j) e)

    pool_cases : (q : ℕ) → q ∈ X → (q ∈ C) ⊎ (L q ≡ suc j)
    unfolding together
    pool_cases q e =
        ⊎_elim (λ u. inl u) (λ u. inr (eqb-true (L q) (suc j) u)) (or_cases (C q) (nat_eq (L q) (suc j)) e)

    -- a chosen page of a layer up to j was chosen before
    older : (q : ℕ) → q ∈ C' → L q ≤ j → q ∈ C
    older q e h = ⊎_elim (λ u. u) (λ u. absurd (omega arith)) (pool_cases q (from_pool q e))

    outranks : (r q : ℕ) → r < N → q < N → r ∈ C' → q ∈ X → C' q ≡ false → o r q ≡ true
    outranks r q lr lq e xq out =
        top_outranks N o X ord (suc j) r q lr lq (sym (is_top r) ∙ e) xq (sym (is_top q) ∙ out)

    pool_size : suc j ≤ count X N
    pool_size =
        omega (
          arith,
          S.size,
          count_less C X N x xN (isnt (C x) (λ u. omega (arith, S.low x xN u))) (pool_new x x_layer) (λ q l. pool_old q),
        )

    size' : count C' N ≡ suc j
    size' =
        count_same
        C'
        (highest N o X (suc j))
        N
        (λ q l e. sym (is_top q) ∙ e)
        (λ q l e. is_top q ∙ e)
        ∙ top_count N o X ord (suc j) pool_size

    low' : (q : ℕ) → q < N → q ∈ C' → L q ≤ suc j
    low' q l e = ⊎_elim (λ u. omega (arith, S.low q l u)) (λ u. omega arith) (pool_cases q (from_pool q e))

    -- up to a layer i ≤ j no page comes in
    shrinks : (i : ℕ) → i ≤ j → (q : ℕ) → q < N → q ∈ upto L C' i → q ∈ upto L C i
    shrinks i h q l u =
        let g = upto_layer L C' i q u in
        upto_in L C i q (older q (upto_member L C' i q u) (omega arith)) g

    fits' : (i : ℕ) → i ≤ suc j → held N L C' i ≤ i
    fits' i h =
        ⊎_elim
        (λ g. omega (arith, count_mono (upto L C' i) (upto L C i) N (shrinks i g), S.fits i g))
        (λ g. omega (arith, count_mono (upto L C' i) C' N (λ q l. upto_member L C' i q), size'))
        (le_or_lt i j)

    -- a page that all of C' outrank has the witness suc j
    last : (q : ℕ) → L q ≤ suc j → ((r : ℕ) → r < N → r ∈ C' → o r q ≡ true) → Witness N (suc j) L o C' q (suc j)
    last q h all =
        record {
          covers = h;
          within = omega arith;
          tight =
              count_same
              (upto L C' (suc j))
              C'
              N
              (λ r l. upto_member L C' (suc j) r)
              (λ r l e. upto_in L C' (suc j) r e (low' r l e))
              ∙ size';
          outranked = λ r l e g. all r l e;
        }

    -- an older page keeps its witness, if all the pages of it were chosen again
    again : (q i : ℕ) → None (without (upto L C i) C') N → Witness N j L o C q i → Witness N (suc j) L o C' q i
    again q i none w =
        record {
          covers = w.covers;
          within = omega (arith, w.within);
          tight =
              count_same
              (upto L C' i)
              (upto L C i)
              N
              (shrinks i w.within)
              (λ r l u. upto_in L C' i r (without_none (upto L C i) C' r (none r l) u) (upto_layer L C i r u))
              ∙ w.tight;
          outranked = λ r l e g. w.outranked r l (older r e (omega (arith, w.within))) g;
        }

    -- a page y of the witness was dropped: all of C' outrank y, and y outranks q
    dropped :
        (q i y : ℕ) → L q ≤ suc j → Witness N j L o C q i → y < N → y ∈ without (upto L C i) C' → Witness N (suc j) L o C' q (suc j)
    dropped q i y h w l e = last q h (λ r lr u. ord.transitive r y q (outranks r y lr l u (pool_old y y_in) y_out) yq)
      where
        was : y ∈ upto L C i
        was = without_was (upto L C i) C' y e

        y_in : y ∈ C
        y_in = upto_member L C i y was

        y_out : C' y ≡ false
        y_out = without_not (upto L C i) C' y e

        yq : o y q ≡ true
        yq = w.outranked y l y_in (upto_layer L C i y was)

    why' : (q : ℕ) → q < N → L q ≤ suc j → C' q ≡ false → (i : ℕ) × Witness N (suc j) L o C' q i
    why' q l h e = ⊎_elim (λ xq. (suc j, last q h (λ r lr u. outranks r q lr l u xq e))) old (truth (X q))
      where
        from : (i : ℕ) → Witness N j L o C q i → (i : ℕ) × Witness N (suc j) L o C' q i
        from i w =
            ⊎_elim
            (λ s. (suc j, dropped q i s.0 h w s.1 s.2))
            (λ none. (i, again q i none w))
            (some_or_none (without (upto L C i) C') N)

        old : X q ≡ false → (i : ℕ) × Witness N (suc j) L o C' q i
        old xq =
            let ne : L q ≡ suc j → ⊥ = λ s. clash (pool_new q s) xq in
            let (i, w) = S.why q l (omega arith) (isnt (C q) (λ u. clash (pool_old q u) xq)) in
            from i w

    stage_next : Stage N o L (suc j)
    stage_next = record { size = size'; low = low'; fits = fits'; why = why' }

module _ (N k : ℕ) (o : ℕ → ℕ → Bool) (L : ℕ → ℕ) (ord : Ranking N o) (lay : Layered N k 0 L) where
  stage : (j : ℕ) → j ≤ k → Stage N o L j
  stage zero h = stage_zero N o L ord
  stage (suc j) h =
      let x = lay.filled (suc j) (omega arith) h in
      stage_next N o L ord j (stage j (omega arith)) x.0 x.1 x.2

  -- the cached set is justified
  pub chosen_justified : Justified N k L o (chosen N o L k)
  chosen_justified =
      let S = stage k (omega arith) in
      record { size = S.size; fits = S.fits; why = λ q l e. S.why q l (lay.bounded q l) e }
