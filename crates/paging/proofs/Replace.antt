-- The heart of an update: page p moves to the top layer, the layers from t on move down by one, and p takes the place of the page v.
-- A hit is the case v = p. Assumes nothing.
use Rattle.std.specs.Prelude.{Bool, true, false, ◌⊎◌, ◌≡◌, refl, ℕ, suc, ◌+◌, ◌≤◌, ◌<◌}
use Rattle.std.proofs.Common.{inl, inr, ⊎_elim, sym, ap, ◌∙◌, arith}
use Rattle.paging.specs.Sets.{Pages, ◌∈◌, count, remove}
use Rattle.paging.specs.Ranking.{Agrees}
use Rattle.paging.specs.Tests.{clash, isnt, same_or_not, le_or_lt, before}
use Rattle.paging.specs.Count.{count_mono, count_same, count_less, count_minus, remove_in, remove_was, remove_not}
use Rattle.paging.specs.Count.{count_remove}
use Rattle.paging.proofs.Moves.{Moved}
use Rattle.paging.specs.Certificate.{upto, upto_in, upto_member, upto_layer, held, Witness, Justified}

-- the new set: m without v, with p
pub record Swapped (p v : ℕ) (m m' : Pages) : Type 0 where
  pub comes : p ∈ m'
  pub stays : (q : ℕ) → (q ≡ v → ⊥) → q ∈ m → q ∈ m'
  pub was : (q : ℕ) → (q ≡ p → ⊥) → q ∈ m' → q ∈ m
  pub goes : (v ≡ p → ⊥) → m' v ≡ false

-- v is the lowest page of m in the layers up to J, and these are full
pub record Lowest (N : ℕ) (L : ℕ → ℕ) (o : ℕ → ℕ → Bool) (m : Pages) (J v : ℕ) : Type 0 where
  pub full : held N L m J ≡ J
  pub below : (r : ℕ) → r < N → r ∈ m → L r ≤ J → (r ≡ v → ⊥) → o r v ≡ true

-- what an update does
pub record Replaced (N k t J p v : ℕ) (L L' : ℕ → ℕ) (o o' : ℕ → ℕ → Bool) (m m' : Pages) : Type 0 where
  pub t_pos : 0 < t
  pub t_J : t ≤ J
  pub J_k : J ≤ k
  pub page : p < N
  pub moved : Moved N k t p L L'
  pub swapped : Swapped p v m m'
  pub rank : Agrees N p o o'
  pub v_page : v < N
  pub v_in : v ∈ m
  pub v_J : L v ≤ J
  -- p is in m only where it is v
  pub p_in : p ∈ m → v ≡ p
  -- J is the first full layer from t on
  pub loose : (j : ℕ) → t ≤ j → j < J → held N L m j ≡ j → ⊥
  -- a hit, or a miss
  pub choice : ((v ≡ p) × (t ≤ L v)) ⊎ Lowest N L o m J v

module _
    (N k t J p v : ℕ)
    (L L' : ℕ → ℕ)
    (o o' : ℕ → ℕ → Bool)
    (m m' : Pages)
    (trans : (a b c : ℕ) → o a b ≡ true → o b c ≡ true → o a c ≡ true)
    (R : Replaced N k t J p v L L' o o' m m')
    (just : Justified N k L o m)
  where
    -- ---- layers, old and new, of a page other than p

    layer_cases : (q : ℕ) → q < N → (q ≡ p → ⊥) → ((t ≤ L q) × (L' q + 1 ≡ L q)) ⊎ ((L q < t) × (L' q ≡ L q))
    layer_cases q l ne =
        ⊎_elim (λ h. inl (h, R.moved.down q l ne h)) (λ h. inr (h, R.moved.same q l ne h)) (le_or_lt t (L q))

    layer_down : (q : ℕ) → q < N → (q ≡ p → ⊥) → L' q ≤ L q
    layer_down q l ne = ⊎_elim (λ c. omega arith) (λ c. omega arith) (layer_cases q l ne)

    layer_one : (q : ℕ) → q < N → (q ≡ p → ⊥) → L q ≤ L' q + 1
    layer_one q l ne = ⊎_elim (λ c. omega arith) (λ c. omega arith) (layer_cases q l ne)

    -- from t on the layers sink
    layer_sinks : (q j : ℕ) → q < N → (q ≡ p → ⊥) → t ≤ suc j → L q ≤ suc j → L' q ≤ j
    layer_sinks q j l ne tj h = ⊎_elim (λ c. omega arith) (λ c. omega arith) (layer_cases q l ne)

    -- below t they stay, but for the pages of layer t
    layer_stays : (q j : ℕ) → q < N → (q ≡ p → ⊥) → j < t → L' q ≤ j → (L q ≡ t → ⊥) → L q ≤ j
    layer_stays q j l ne jt h nt = ⊎_elim (λ c. omega arith) (λ c. omega arith) (layer_cases q l ne)

    -- ---- members, old and new

    -- a page below the top layer is not p
    not_p : (q j : ℕ) → j < k → L' q ≤ j → q ≡ p → ⊥
    not_p q j jk h e = omega (arith, ap L' e, R.moved.top)

    -- an old member that is not v is not p
    not_p_old : (q : ℕ) → q ∈ m → (q ≡ v → ⊥) → q ≡ p → ⊥
    not_p_old q e ne s = ne (s ∙ sym (R.p_in (rw s at e)))

    -- a new member that is not p is not v
    not_v : (q : ℕ) → q ∈ m' → (q ≡ p → ⊥) → q ≡ v → ⊥
    not_v q e ne s = clash (rw s at e) (R.swapped.goes (λ u. ne (s ∙ u)))

    -- ---- how many pages the layers hold

    -- from t on, a new member was a member, one layer higher at most
    high_back : (j : ℕ) → suc j ≤ k → (q : ℕ) → q < N → q ∈ upto L' m' j → q ∈ upto L m (suc j)
    high_back j jk q l u =
        let h = upto_layer _ _ _ _ u in
        let ne = not_p q j jk h in
        upto_in _ _ _ _ (R.swapped.was q ne (upto_member _ _ _ _ u)) (omega (arith, layer_one q l ne))

    -- and an old member that is not v is one still
    high_there : (j : ℕ) → t ≤ suc j → (q : ℕ) → q < N → (q ≡ v → ⊥) → q ∈ upto L m (suc j) → q ∈ upto L' m' j
    high_there j tj q l nv u =
        let e = upto_member _ _ _ _ u in
        upto_in _ _ _ _ (R.swapped.stays q nv e) (layer_sinks q j l (not_p_old q e nv) tj (upto_layer _ _ _ _ u))

    -- the same below t, where layers stay
    low_back : (j : ℕ) → suc j < t → (q : ℕ) → q < N → q ∈ upto L' m' j → q ∈ upto L m j
    low_back j jt q l u =
        let h = upto_layer _ _ _ _ u in
        let ne = not_p q j (omega arith) h in
        let low = layer_stays q j l ne (omega arith) h (λ s. omega (arith, layer_one q l ne)) in
        upto_in _ _ _ _ (R.swapped.was q ne (upto_member _ _ _ _ u)) low

    low_there : (j : ℕ) → (q : ℕ) → q < N → (q ≡ v → ⊥) → q ∈ upto L m j → q ∈ upto L' m' j
    low_there j q l nv u =
        let e = upto_member _ _ _ _ u in
        let h = upto_layer _ _ _ _ u in
        upto_in _ _ _ _ (R.swapped.stays q nv e) (omega (arith, layer_down q l (not_p_old q e nv)))

    -- v is no more among the layers below the top
    v_gone : (j : ℕ) → j < k → upto L' m' j v ≡ false
    v_gone j jk =
        isnt
        (upto L' m' j v)
        (λ u. not_v v (upto_member _ _ _ _ u) (not_p v j jk (upto_layer _ _ _ _ u)) refl)

    -- a page of the layers up to j is not v, where v is above them
    not_v_above : (j : ℕ) → j < L v → (q : ℕ) → q ∈ upto L m j → q ≡ v → ⊥
    not_v_above j vj q u s = omega (arith, ap L s, upto_layer _ _ _ _ u)

    -- So the new counts are the old, shifted from t on, less one where v was counted.
    pub held_high_less : (j : ℕ) → t ≤ suc j → j < k → L v ≤ suc j → held N L m (suc j) ≡ held N L' m' j + 1
    held_high_less j tj jk vj =
        let v_was = upto_in _ _ _ _ R.v_in vj in
        count_minus (upto L' m' j) (upto L m (suc j)) N v R.v_page (v_gone j jk) v_was (high_back j jk) (high_there j tj)

    pub held_high_same : (j : ℕ) → t ≤ suc j → j < k → suc j < L v → held N L m (suc j) ≡ held N L' m' j
    held_high_same j tj jk vj =
        count_same
        (upto L m (suc j))
        (upto L' m' j)
        N
        (λ q l u. high_there j tj q l (not_v_above (suc j) vj q u) u)
        (high_back j jk)

    pub held_low_less : (j : ℕ) → suc j < t → L v ≤ j → held N L m j ≡ held N L' m' j + 1
    held_low_less j jt vj =
        let v_was = upto_in _ _ _ _ R.v_in vj in
        count_minus (upto L' m' j) (upto L m j) N v R.v_page (v_gone j (omega arith)) v_was (low_back j jt) (low_there j)

    pub held_low_same : (j : ℕ) → suc j < t → j < L v → held N L m j ≡ held N L' m' j
    held_low_same j jt vj =
        count_same _ _ _ (λ q l u. low_there j q l (not_v_above j vj q u) u) (low_back j jt)

    -- ---- the layers below t: where they are full and v is not among them, nothing changes

    -- if the layers below t are full and v is above them, only v can be in layer t
    alone : (j : ℕ) → suc j ≡ t → held N L m j ≡ j → j < L v → (r : ℕ) → r < N → r ∈ m → (r ≡ v → ⊥) → L r ≡ t → ⊥
    alone j jt full vj r l e nv rt = ⊎_elim two (λ h. R.loose t (omega arith) h t_full) (le_or_lt J t)
      where
        grows : (q : ℕ) → q < N → q ∈ upto L m j → q ∈ upto L m t
        grows q lq u = upto_in _ _ _ _ (upto_member _ _ _ _ u) (omega (arith, upto_layer _ _ _ _ u))

        above : (q : ℕ) → j < L q → upto L m j q ≡ false
        above q h = isnt (upto L m j q) (λ u. omega (arith, upto_layer _ _ _ _ u))

        r_in : r ∈ upto L m t
        r_in = upto_in _ _ _ _ e (omega arith)

        t_full : held N L m t ≡ t
        t_full =
            omega
            (arith, count_less (upto L m j) (upto L m t) N r l (above r (omega arith)) r_in grows, just.fits t (omega arith))

        rest : Pages
        rest = remove v (upto L m t)

        in_rest : (q : ℕ) → q < N → q ∈ upto L m j → rest q ≡ true
        in_rest q lq u = remove_in v _ q (grows q lq u) (not_v_above j vj q u)

        -- then both v and r are there, beside the pages below
        two : J ≤ t → ⊥
        two h =
            let one = count_less (upto L m j) rest N r l (above r (omega arith)) (remove_in v _ r r_in nv) in_rest in
            let more = count_remove v (upto L m t) N R.v_page (upto_in _ _ _ _ R.v_in (omega arith)) in
            omega (arith, t_full)

    -- so a new member of the layers up to j was there
    kept : (j : ℕ) → j < t → held N L m j ≡ j → j < L v → (q : ℕ) → q < N → q ∈ m' → L' q ≤ j → L q ≤ j
    kept j jt full vj q l e h =
        let ne = not_p q j (omega arith) h in
        let was = R.swapped.was q ne e in
        let nv = not_v q e ne in
        layer_stays q j l ne jt h (λ s. alone j (omega (arith, layer_one q l ne)) full vj q l was nv s)

    held_stays : (j : ℕ) → j < t → held N L m j ≡ j → j < L v → held N L' m' j ≡ j
    held_stays j jt full vj =
        sym (count_same (upto L m j) (upto L' m' j) N (λ q l u. low_there j q l (not_v_above j vj q u) u) back) ∙ full
      where
        back : (q : ℕ) → q < N → q ∈ upto L' m' j → q ∈ upto L m j
        back q l u =
            let e = upto_member _ _ _ _ u in
            let h = upto_layer _ _ _ _ u in
            upto_in _ _ _ _ (R.swapped.was q (not_p q j (omega arith) h) e) (kept j jt full vj q l e h)

    -- ---- the witnesses

    abbrev Old : ℕ → ℕ → Type 0
    Old q j = Witness N k L o m q j

    abbrev New : ℕ → ℕ → Type 0
    New q j = Witness N k L' o' m' q j

    -- from t on a witness sinks with its layer, if v was among its pages
    sinks : (q i j : ℕ) → suc i ≡ j → q < N → (q ≡ p → ⊥) → t ≤ j → L v ≤ j → Old q j → New q i
    sinks q i j e l ne tj vj w =
        record {
          covers = layer_sinks q i l ne (omega arith) (omega (arith, w.covers));
          within = omega (arith, w.within);
          tight = omega (arith, held_high_less i (omega arith) (omega (arith, w.within)) (omega arith), ap (held N L m) e, w.tight);
          outranked = λ r lr u h.
              let nr = not_p r i (omega (arith, w.within)) h in
              R.rank r q lr l nr ne ∙ w.outranked r lr (R.swapped.was r nr u) (omega (arith, layer_one r lr nr));
        }

    -- below t it stays, if v was not
    stays : (q j : ℕ) → q < N → (q ≡ p → ⊥) → j < t → j < L v → Old q j → New q j
    stays q j l ne jt vj w =
        record {
          covers = omega (arith, layer_down q l ne, w.covers);
          within = w.within;
          tight = held_stays j jt w.tight vj;
          outranked = λ r lr u h.
              let nr = not_p r j (omega arith) h in
              R.rank r q lr l nr ne ∙ w.outranked r lr (R.swapped.was r nr u) (kept j jt w.tight vj r lr u h);
        }

    -- v, and a page that v outranked, have the layers up to J, now one lower
    falls : (q i : ℕ) → suc i ≡ J → q < N → (q ≡ p → ⊥) → L q ≤ J → Lowest N L o m J v → (q ≡ v) ⊎ (o v q ≡ true) → New q i
    falls q i e l ne qJ low c =
        record {
          covers = layer_sinks q i l ne (omega arith) (omega arith);
          within = omega arith;
          tight = omega (arith, held_high_less i (omega arith) (omega arith) (omega arith), ap (held N L m) e, low.full);
          outranked = λ r lr u h.
              let nr = not_p r i (omega arith) h in
              let rv = low.below r lr (R.swapped.was r nr u) (omega (arith, layer_one r lr nr)) (not_v r u nr) in
              R.rank r q lr l nr ne ∙ ⊎_elim (λ s. rw s rv) (λ vq. trans r v q rv vq) c;
        }

    -- so a page q that is neither p nor in the new set has a witness
    module _ (q : ℕ) (l : q < N) (ne : q ≡ p → ⊥) where
      low : Lowest N L o m J v → L q ≤ J → (q ≡ v) ⊎ (o v q ≡ true) → (i : ℕ) × New q i
      low lw qJ c =
          let (i, e) = before J (omega arith) in
          (i, falls q i e l ne qJ lw c)

      -- v itself
      of_v : q ≡ v → (i : ℕ) × New q i
      of_v s = ⊎_elim (λ hit. absurd (ne (s ∙ hit.0))) (λ lw. low lw (omega (arith, ap L s)) (inl s)) R.choice

      -- one that v keeps out, by layers below t: v is none of them at a hit
      under_v : (j : ℕ) → j < t → Old q j → L v ≤ j → (i : ℕ) × New q i
      under_v j jt w vj = ⊎_elim (λ hit. absurd (omega arith)) (λ lw. low lw (omega (arith, w.covers)) (inr vq)) R.choice
        where
          vq : o v q ≡ true
          vq = w.outranked v R.v_page R.v_in vj

      under : (j : ℕ) → j < t → Old q j → (i : ℕ) × New q i
      under j jt w = ⊎_elim (under_v j jt w) (λ vj. (j, stays q j l ne jt vj w)) (le_or_lt (L v) j)

      from_J : (j : ℕ) → J ≤ j → Old q j → (i : ℕ) × New q i
      from_J j Jj w =
          let (i, e) = before j (omega arith) in
          (i, sinks q i j e l ne (omega arith) (omega arith) w)

      -- between t and J no layers are full
      of_old : (j : ℕ) → Old q j → (i : ℕ) × New q i
      of_old j w = ⊎_elim (λ h. from_J j h w) (λ h. ⊎_elim (λ g. between h g) (λ g. under j g w) (le_or_lt t j)) (le_or_lt J j)
        where
          between : j < J → t ≤ j → (i : ℕ) × New q i
          between h g = absurd (R.loose j g h w.tight)

    why' : (q : ℕ) → q < N → m' q ≡ false → (j : ℕ) × New q j
    why' q l e = ⊎_elim (of_v q l ne) left (same_or_not q v)
      where
        ne : q ≡ p → ⊥
        ne s = clash R.swapped.comes (rw s at e)

        left : (q ≡ v → ⊥) → (j : ℕ) × New q j
        left nv =
            let (j, w) = just.why q l (isnt (m q) (λ u. clash (R.swapped.stays q nv u) e)) in
            of_old q l ne j w

    -- ---- the sizes

    -- without v the old set, without p the new
    same_rest : count (remove v m) N ≡ count (remove p m') N
    same_rest = count_same (remove v m) (remove p m') N there back
      where
        there : (q : ℕ) → q < N → q ∈ remove v m → q ∈ remove p m'
        there q l h =
            let u = remove_was v m q h in
            let nv = remove_not v m q h in
            remove_in p m' q (R.swapped.stays q nv u) (not_p_old q u nv)

        back : (q : ℕ) → q < N → q ∈ remove p m' → q ∈ remove v m
        back q l h =
            let u = remove_was p m' q h in
            let np = remove_not p m' q h in
            remove_in v m q (R.swapped.was q np u) (not_v q u np)

    size' : count m' N ≡ k
    size' =
        let a = count_remove v m N R.v_page R.v_in in
        let b = count_remove p m' N R.page R.swapped.comes in
        omega (arith, same_rest, just.size)

    fits' : (j : ℕ) → j ≤ k → held N L' m' j ≤ j
    fits' j jk = ⊎_elim whole (λ h. ⊎_elim (high h) (low h) (le_or_lt t (suc j))) (le_or_lt k j)
      where
        whole : k ≤ j → held N L' m' j ≤ j
        whole h = omega (arith, count_mono (upto L' m' j) m' N (λ q l. upto_member L' m' j q), size')

        -- where v is not counted, the layers were not full
        high_v : j < k → t ≤ suc j → suc j < L v → held N L' m' j ≤ j
        high_v h g a =
            let ne = R.loose (suc j) g (omega arith) in
            omega (arith, held_high_same j g h a, just.fits (suc j) h)

        high : j < k → t ≤ suc j → held N L' m' j ≤ j
        high h g =
            ⊎_elim (λ a. omega (arith, held_high_less j g h a, just.fits (suc j) h)) (high_v h g) (le_or_lt (L v) (suc j))

        low : j < k → suc j < t → held N L' m' j ≤ j
        low h g =
            let old = just.fits j jk in
            ⊎_elim (λ a. omega (arith, held_low_less j g a)) (λ a. omega (arith, held_low_same j g a)) (le_or_lt (L v) j)

    -- what was justified is so again
    pub replaced_justified : Justified N k L' o' m'
    replaced_justified = record { size = size'; fits = fits'; why = why' }
