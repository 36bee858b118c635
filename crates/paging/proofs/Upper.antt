-- The upper bound: each valid set is the end of a schedule with exactly `best` loads. Assumes nothing.
use Rattle.std.specs.Prelude.{false, not, List, [], ◌∷◌, ◌⊎◌, ◌≡◌, refl, ℕ, ◌+◌, ◌-◌, ◌≤◌, ◌<◌}
use Rattle.std.proofs.Common.{inl, inr, ⊎_elim, sym, ap, ◌∙◌, arith, eq-eqb}
use Rattle.std.proofs.lemmas.Bool.{not-true}
use Rattle.paging.specs.Sets.{Pages, ◌∈◌, Same, count, without, remove, insert}
use Rattle.paging.specs.Layers.{Layered}
use Rattle.paging.specs.Schedule.{Below, Serves, loads, end, Ends}
use Rattle.paging.specs.Best.{State, serve, after, seen, Start}
use Rattle.paging.specs.Tests.{clash, isnt, is, same_or_not, le_or_lt}
use Rattle.paging.specs.Count.{single, None, count_mono, count_cover, count_same, count_none, count_single, single_inside}
use Rattle.paging.specs.Count.{count_pos, inside_same, remove_in, remove_was, remove_not, remove_self, count_remove}
use Rattle.paging.specs.Count.{insert_in, insert_cases, insert_was, count_insert, without_in, without_was, without_not}
use Rattle.paging.proofs.Moves.{Moved, moved_cases, serve_cases, serve_layered}
use Rattle.paging.specs.Certificate.{upto, upto_in, upto_member, upto_layer, held}
use Rattle.paging.proofs.Lower.{seen_of, start_fits}
use Rattle.paging.specs.Choice.{Valid, between, Highest, highest_of}

-- ---- a request of p: from a valid set C after it to a valid set before it

-- a valid set before the request, from which C costs as much as the request adds to `best`
pub record Back (N k : ℕ) (s u : State) (p : ℕ) (C : Pages) : Type 0 where
  pub has : p ∈ C
  pub set : Pages
  pub valid : Valid N k s set
  pub load : s.best + count (without C set) N ≡ u.best

-- where p alone is in layer k, a valid set has p
asked_in :
    {N k : ℕ} (u : State) (C : Pages) → Valid N k u C → u.free < k → (p : ℕ) →
    ((q : ℕ) → q < N → (q ≡ p → ⊥) → u.layer q < k) → p ∈ C
asked_in {N} {k} u C v l p others = is (C p) too_many
  where
    too_many : C p ≡ false → ⊥
    too_many e =
        omega (
          arith,
          v.size,
          v.room (k - 1) (omega arith) (omega arith),
          count_mono C (upto u.layer C (k - 1)) N
              (λ q lq m. upto_in u.layer C (k - 1) q m (omega (arith, others q lq (λ g. clash m (ap C g ∙ e))))),
        )

module _
    {N k : ℕ}
    (s : State)
    (pos : 0 < k)
    (lay : Layered N k s.free s.layer)
    (p : ℕ)
    (pN : p < N)
    (C : Pages)
  where
    abbrev L : ℕ → ℕ
    L = s.layer

    others : {t : ℕ} {L' : ℕ → ℕ} → Moved N k t p L L' → 0 < t → t ≤ k → (q : ℕ) → q < N → (q ≡ p → ⊥) → L' q < k
    others mv t_pos t_k q l ne =
        ⊎_elim (λ h. absurd (ne h.0)) (λ h. omega (arith, lay.bounded q l)) (moved_cases mv q l)

    -- from a set that lacks p and has the other pages of C, going to C loads p alone
    load_one : (B : Pages) → p ∈ C → B p ≡ false → ((q : ℕ) → q ∈ C → (q ≡ p → ⊥) → q ∈ B) → count (without C B) N ≡ 1
    load_one B has out rest = count_same (without C B) (single p) N there back ∙ count_single p N pN
      where
        there : (q : ℕ) → q < N → q ∈ without C B → q ∈ single p
        there q l m =
            ⊎_elim
            (λ e. eq-eqb q p e)
            (λ ne. absurd (clash (rest q (without_was C B q m) ne) (without_not C B q m)))
            (same_or_not q p)

        back : (q : ℕ) → q < N → q ∈ single p → q ∈ without C B
        back = single_inside p N (without C B) (without_in C B p has out)

    -- p was in a layer above 0: C was valid before
    module _ (L' : ℕ → ℕ) (hit : 0 < L p) (mv : Moved N k (L p) p L L') where
      abbrev hit_state : State
      hit_state = record { free = s.free; layer = L'; best = s.best }

      module _ (v : Valid N k hit_state C) where
        hit_low : (j : ℕ) → j < L p → held N L C j ≤ held N L' C j
        hit_low j low =
            count_mono
            (upto L C j)
            (upto L' C j)
            N
            (λ q l m.
            let at = upto_layer L C j q m in
            upto_in L' C j q (upto_member L C j q m) (⊎_elim (λ h. omega arith) (λ h. omega arith) (moved_cases mv q l)))

        hit_high : (j : ℕ) → L p ≤ j → held N L C j ≤ held N L' C (j - 1) + 1
        hit_high j high = omega (arith, count_single p N pN, cover)
          where
            cover : held N L C j ≤ held N L' C (j - 1) + count (single p) N
            cover =
                count_cover
                (upto L C j)
                (upto L' C (j - 1))
                (single p)
                N
                (λ q l m.
                let at = upto_layer L C j q m in
                ⊎_elim
                (λ h. inr (eq-eqb q p h.0))
                (λ h. inl (upto_in L' C (j - 1) q (upto_member L C j q m) (omega arith)))
                (moved_cases mv q l))

        hit_valid : Valid N k s C
        hit_valid =
            record {
              size = v.size;
              room = λ j lo hi.
                  ⊎_elim
                  (λ high. omega (arith, hit_high j high, v.room (j - 1) (omega (arith, lay.gap p pN hit)) (omega arith)))
                  (λ low. omega (arith, hit_low j low, v.room j lo hi))
                  (le_or_lt (L p) j);
            }

        hit_back : Back N k s hit_state p C
        hit_back =
            record {
              has =
                  asked_in
                  hit_state
                  C
                  v
                  (omega (arith, lay.gap p pN hit, lay.bounded p pN))
                  p
                  (others mv hit (lay.bounded p pN));
              set = C;
              valid = hit_valid;
              load = omega (arith, count_none (without C C) N (λ q l m. clash (without_was C C q m) (without_not C C q m)));
            }

    -- a free slot is filled: before, p was not there
    module _ (L' : ℕ → ℕ) (new : L p ≡ 0) (some : 0 < s.free) (mv : Moved N k 1 p L L') where
      abbrev fill_state : State
      fill_state = record { free = s.free - 1; layer = L'; best = s.best + 1 }

      module _ (v : Valid N k fill_state C) where
        fill_has : p ∈ C
        fill_has = asked_in fill_state C v (omega (arith, lay.few)) p (others mv (omega arith) (omega arith))

        fill_room : (j : ℕ) → 0 < j → held N L (remove p C) j ≤ held N L' C (j - 1)
        fill_room j up =
            count_mono
            (upto L (remove p C) j)
            (upto L' C (j - 1))
            N
            (λ q l m.
            let at = upto_layer L (remove p C) j q m in
            let old = upto_member L (remove p C) j q m in
            upto_in
            L'
            C
            (j - 1)
            q
            (remove_was p C q old)
            (⊎_elim (λ h. absurd (remove_not p C q old h.0)) (λ h. omega arith) (moved_cases mv q l)))

        fill_back : Back N k s fill_state p C
        fill_back =
            record {
              has = fill_has;
              set = remove p C;
              valid =
                  record {
                    size = omega (arith, v.size, count_remove p C N pN fill_has);
                    room = λ j lo hi. omega (arith, fill_room j (omega arith), v.room (j - 1) (omega arith) (omega arith));
                  };
              load =
                  omega (arith, load_one (remove p C) fill_has (remove_self p C) (λ q m ne. remove_in p C q m ne));
            }

    -- p was in L_0: C has p, so it lacks a page of some layer from 1 on; the highest such page stood where p is now
    module _ (L' : ℕ → ℕ) (new : L p ≡ 0) (none : s.free ≡ 0) (mv : Moved N k k p L L') where
      abbrev miss_state : State
      miss_state = record { free = 0; layer = L'; best = s.best + 1 }

      module _ (v : Valid N k miss_state C) where
        miss_has : p ∈ C
        miss_has = asked_in miss_state C v pos p (others mv pos (omega arith))

        not_all : ((q : ℕ) → q < N → 0 < L q → q ∈ C) → ⊥
        not_all has =
            omega (
              arith,
              v.size,
              between lay C 0 (omega arith) k (omega arith) (omega arith) has,
              count_mono (upto L C k) C N (λ q l. upto_member L C k q),
              count_pos (upto L C 0) N p pN (upto_in L C 0 p miss_has (omega arith)),
            )

        -- a page that C lacks, of the highest layer that has one
        record Lacks (w : ℕ) : Type 0 where
          page : w < N
          out : C w ≡ false
          layer : 0 < L w
          highest : (q : ℕ) → q < N → L w < L q → q ∈ C

        lacked : (w : ℕ) × Lacks w
        lacked = go (highest_of L (λ q. not (C q)) N)
          where
            go : None (λ q. not (C q)) N ⊎ Highest L (λ q. not (C q)) N → (w : ℕ) × Lacks w
            go (inl all) = absurd (not_all (λ q lq l. is (C q) (λ e. all q lq (ap not e))))
            go (inr h) = ⊎_elim found (λ low. absurd (not_all (λ q lq l. higher q lq (omega arith)))) (le_or_lt 1 (L h.0))
              where
                higher : (q : ℕ) → q < N → L h.0 < L q → q ∈ C
                higher q lq l = is (C q) (λ e. omega (arith, h.3 q lq (ap not e)))

                found : 1 ≤ L h.0 → (w : ℕ) × Lacks w
                found l = (h.0, record { page = h.1; out = not-true (C h.0) h.2; layer = l; highest = higher })

        module _ (w : ℕ) (wl : Lacks w) where
          -- C with w in the place of p
          abbrev B : Pages
          B = insert w (remove p C)

          size_before : count B N ≡ k
          size_before =
              omega (
                arith,
                v.size,
                count_remove p C N pN miss_has,
                count_insert w (remove p C) N wl.page (isnt (remove p C w) (λ m. clash (remove_was p C w m) wl.out)),
              )

          was_in : (q : ℕ) → q ∈ C → (q ≡ p → ⊥) → q ∈ B
          was_in q m ne = insert_in w (remove p C) q (remove_in p C q m ne)

          low_room : (j : ℕ) → j < L w → held N L B j ≤ held N L' C j
          low_room j low =
              count_mono
              (upto L B j)
              (upto L' C j)
              N
              (λ q l m.
              let at = upto_layer L B j q m in
              let old = insert_was w (remove p C) q (λ e. omega (arith, ap L e)) (upto_member L B j q m) in
              upto_in
              L'
              C
              j
              q
              (remove_was p C q old)
              (⊎_elim (λ h. absurd (remove_not p C q old h.0)) (λ h. omega arith) (moved_cases mv q l)))

          high_room : (j : ℕ) → L w ≤ j → j ≤ k → held N L B j ≤ j
          high_room j high hi =
              omega (
                arith,
                size_before,
                between lay B j (omega arith) k hi (omega arith)
                    (λ q lq l. was_in q (wl.highest q lq (omega arith)) (λ e. omega (arith, ap L e))),
                count_mono (upto L B k) B N (λ q l. upto_member L B k q),
              )

          not_p : B p ≡ false
          not_p =
              isnt
              (B p)
              (λ m.
              ⊎_elim
              (λ e. omega (arith, ap L e, wl.layer))
              (λ h. remove_not p C p h refl)
              (insert_cases w (remove p C) p m))

          before_back : Back N k s miss_state p C
          before_back =
              record {
                has = miss_has;
                set = B;
                valid =
                    record {
                      size = omega (arith, size_before);
                      room = λ j lo hi.
                          ⊎_elim
                          (λ high. omega (arith, high_room j high hi))
                          (λ low. omega (arith, low_room j low, v.room j (omega arith) hi))
                          (le_or_lt (L w) j);
                    };
                load = omega (arith, load_one B miss_has not_p was_in);
              }

        miss_back : Back N k s miss_state p C
        miss_back =
            let (w, wl) = lacked in
            before_back w wl

    pub serve_back : Valid N k (serve k s p) C → Back N k s (serve k s p) p C
    serve_back =
        serve_cases
        s
        p
        (λ u. Valid N k u C → Back N k s u p C)
        pos
        lay
        (λ L' h mv v. hit_back L' h mv v)
        (λ L' z free mv v. miss_back L' z free mv v)
        (λ L' z free mv v. fill_back L' z free mv v)

-- ---- all requests

-- a schedule from a valid set to C, with as many loads as `best` grows
pub record PathTo (N k : ℕ) (s : State) (ps : List ℕ) (C : Pages) : Type 0 where
  pub set : Pages
  pub valid : Valid N k s set
  pub sets : List Pages
  pub serves : Serves N k ps sets
  pub ends : end set sets ≡ C
  pub load : s.best + loads N set sets ≡ (after k s ps).best

pub after_back :
    {N k : ℕ} (s : State) (ps : List ℕ) (C : Pages) →
    0 < k →
    Below N ps →
    Layered N k s.free s.layer →
    Valid N k (after k s ps) C →
    PathTo N k s ps C
unfolding after end loads
after_back s [] C pos below lay v =
    record { set = C; valid = v; sets = []; serves = tt; ends = refl; load = omega arith }
after_back {N} {k} s (p ∷ ps) C pos below lay v =
    let w = after_back (serve k s p) ps C pos below.1 (serve_layered s p pos below.0 lay) v in
    let b = serve_back s pos lay p below.0 w.set w.valid in
    record {
      set = b.set;
      valid = b.valid;
      sets = w.set ∷ w.sets;
      serves = (omega (arith, w.valid.size), b.has, w.serves);
      ends = w.ends;
      load = omega (arith, b.load, w.load);
    }

-- only the pages below N of the first set matter
pub loads_same : (N : ℕ) (S T : Pages) (Ts : List Pages) → Same N S T → loads N S Ts ≡ loads N T Ts
unfolding loads
loads_same N S T [] same = refl
loads_same N S T (U ∷ Us) same =
    ap
    (λ n. n + loads N U Us)
    (count_same
    (without U S)
    (without U T)
    N
    (λ q l m. without_in U T q (without_was U S q m) (sym (same q l) ∙ without_not U S q m))
    (λ q l m. without_in U S q (without_was U T q m) (same q l ∙ without_not U T q m)))

pub end_same : (N : ℕ) (S T : Pages) (Ts : List Pages) → Same N S T → Same N (end S Ts) (end T Ts)
unfolding end
end_same N S T [] same = same
end_same N S T (U ∷ Us) same = λ q l. refl

module _ {N k : ℕ} (s : State) (st : Start N k s) where
  -- at the start the only valid set is the one that is seen
  start_valid : (C : Pages) → Valid N k s C → Same N C (seen s.layer)
  start_valid C v = inside_same C (seen s.layer) N inside (omega (arith, v.size, start_fits s st k st.layered.few, all))
    where
      inside : (q : ℕ) → q < N → q ∈ C → q ∈ seen s.layer
      inside q l m = seen_in (⊎_elim (λ h. h) (λ h. absurd (low h)) (le_or_lt 1 (s.layer q)))
        where
          seen_in : 1 ≤ s.layer q → q ∈ seen s.layer
          seen_in h = seen_of s.layer q h

          low : s.layer q < 1 → ⊥
          low h =
              omega (
                arith,
                v.room s.free (omega arith) st.layered.few,
                count_pos (upto s.layer C s.free) N q l (upto_in s.layer C s.free q m (omega arith)),
              )

      all : count (seen s.layer) N ≤ held N s.layer (seen s.layer) k
      all =
          count_mono
          (seen s.layer)
          (upto s.layer (seen s.layer) k)
          N
          (λ q l m. upto_in s.layer (seen s.layer) k q m (st.layered.bounded q l))

  -- Every set that is valid after the requests is the end of a schedule with `best` loads.
  pub reached :
      (ps : List ℕ) (C : Pages) → 0 < k → Below N ps → Valid N k (after k s ps) C → Ends N k (seen s.layer) ps (after k s ps).best C
  reached ps C pos below v =
      let w = after_back s ps C pos below st.layered v in
      let same : Same N (seen s.layer) w.set = λ q l. sym (start_valid w.set w.valid q l) in (
        w.sets,
        w.serves,
        omega (arith, loads_same N (seen s.layer) w.set w.sets same, w.load, st.fresh),
        λ q l. end_same N (seen s.layer) w.set w.sets same q l ∙ ap (λ (E : Pages). E q) w.ends,
      )
