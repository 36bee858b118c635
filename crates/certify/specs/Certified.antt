-- The test of the certificate says that the cached set is the selection. Assumes nothing.
use Rattle.std.proofs.Math.Bool.{Bool, true}
use Rattle.std.specs.Prelude.{false, ◌&&◌, ◌||◌, List, ◌↔◌, ◌≡◌, nat_eq, nat_le, nat_lt, slice_index_or}
use Rattle.std.proofs.Math.Logic.{⊎_elim}
use Rattle.std.proofs.Math.Option
use Rattle.std.proofs.Math.Option.{Option, none, some}
use Rattle.std.proofs.Math.Path.{Path, refl, sym, ap}
use Rattle.std.proofs.Common.{◌∙◌}
use Prim.Native.Nat.{ℕ, suc, ◌≤◌, ◌<◌, zero-le}
use native.Mathlib.Omega.{arith}
use borrow.Author.Tests.{eqb-true, eq-eqb, leb-true, le-leb, ltb-true, lt-ltb}
use Rattle.paging.specs.Sets.{Pages, Same, count, first}
use Rattle.paging.specs.Layers.{Layered}
use Rattle.paging.specs.Selection.{chosen}
use Rattle.paging.specs.Tests.{truth, clash, and_in, and_left, and_right, or_left, or_right, or_cases, le_or_lt}
use Rattle.paging.specs.Count.{count_pos}
use Rattle.paging.specs.Words.{each_true, each_in, first_none, first_some}
use Rattle.paging.specs.Certificate.{upto, upto_in, Witness, Justified}
use Rattle.paging.proofs.Update.{held_top}
use Rattle.paging.proofs.Theorems.{selection_justified}
use Rattle.slots.specs.Slots.{no_page, seated, near_of, keys_of, near_to}
use Rattle.slots.specs.Laws.{near_at, keys_at, seated_in, seated_was, least_le}
use Rattle.slots.specs.Held.{Seats, near_held, seated_count, least_slot, near_some}
use Rattle.certify.specs.Test.{room, far, bar_key, none_late}

module _
    (N k : ℕ)
    (o : ℕ → ℕ → Bool)
    (key : ℕ → ℕ)
    (layer held : List ℕ)
    (w : Seats N k o key held)
    (k_pos : 0 < k)
    (lay : Layered N k 0 (λ q. slice_index_or layer q 0))
  where
    abbrev L : ℕ → ℕ
    L q = slice_index_or layer q 0

    abbrev M : Pages
    M = seated held k

    abbrev near : List ℕ
    near = near_of layer held k

    abbrev keys : List ℕ
    keys = keys_of key held k

    count_near : (j : ℕ) → near_to near k j ≡ count (upto L M j) N
    count_near = near_held N k o key layer held w

    -- all cached pages are in layers up to k, and they are k
    full_top : near_to near k k ≡ k
    full_top = count_near k ∙ (held_top N k L M lay.bounded ∙ seated_count N k o key layer held w)

    -- the first full layer from i on
    far_is : (i : ℕ) → i ≤ k → (i ≤ far near k i) × (far near k i ≤ k) × (near_to near k (far near k i) ≡ far near k i) × ((j : ℕ) → i ≤ j → j ≤ k → near_to near k j ≡ j → far near k i ≤ j)
    unfolding far
    far_is i h = go (first (suc k) test) refl
      where
        test : ℕ → Bool
        test j = nat_le i j && nat_eq (near_to near k j) j

        test_in : (j : ℕ) → i ≤ j → near_to near k j ≡ j → test j ≡ true
        test_in j a e = and_in (nat_le i j) (nat_eq (near_to near k j) j) (le-leb i j a) (eq-eqb (near_to near k j) j e)

        go : (x : Option ℕ) → Path (Option ℕ) (first (suc k) test) x → (i ≤ Option.get_or (first (suc k) test) k) × (Option.get_or (first (suc k) test) k ≤ k) × (near_to near k (Option.get_or (first (suc k) test) k) ≡ Option.get_or (first (suc k) test) k) × ((j : ℕ) → i ≤ j → j ≤ k → near_to near k j ≡ j → Option.get_or (first (suc k) test) k ≤ j)
        go none ex = absurd (clash (test_in k h full_top) (first_none (suc k) test ex k (omega arith)))
        go (some J) ex =
            let f = first_some (suc k) test J ex in
            let is : Option.get_or (first (suc k) test) k ≡ J = ap (λ (x : Option ℕ). Option.get_or x k) ex in
            rw is (
              leb-true i J (and_left (nat_le i J) (nat_eq (near_to near k J) J) f.member),
              omega (arith, f.below),
              eqb-true (near_to near k J) J (and_right (nat_le i J) (nat_eq (near_to near k J) J) f.member),
              λ j a b e. ⊎_elim (λ l. l) (λ l. absurd (clash (test_in j a e) (f.none_before j l))) (le_or_lt J j),
            )

    -- ---- from the test to the certificate

    module _ (fits : room near k ≡ true) (late : none_late N k layer key M near keys ≡ true) where
      fits_at : (j : ℕ) → j ≤ k → count (upto L M j) N ≤ j
      unfolding room
      fits_at j h =
          omega (
            arith,
            count_near j,
            leb-true (near_to near k j) j (each_true (suc k) (λ j. nat_le (near_to near k j) j) fits j (omega arith)),
          )

      -- a page outside the slots, of a layer above 0, has a lower key than all pages up to the first full layer
      low_key : (q : ℕ) → q < N → M q ≡ false → 0 < L q → key q < bar_key near keys k (L q)
      unfolding none_late
      low_key q l out pos =
          ⊎_elim
          (λ e. absurd (⊎_elim (λ m. clash m out) (λ z. omega (arith, eqb-true (L q) 0 z)) (or_cases (M q) (nat_eq (L q) 0) e)))
          (λ e. ltb-true (key q) (bar_key near keys k (L q)) e)
          (or_cases (M q || nat_eq (L q) 0) (nat_lt (key q) (bar_key near keys k (L q))) (each_true N (λ q. M q || nat_eq (L q) 0 || nat_lt (key q) (bar_key near keys k (L q))) late q l))

      witness : (q : ℕ) → q < N → M q ≡ false → 0 < L q → Witness N k L o M q (far near k (L q))
      unfolding bar_key
      witness q l out pos =
          let (a, b, e, _) = far_is (L q) (lay.bounded q l) in
          record {
            covers = a;
            within = b;
            tight = sym (count_near (far near k (L q))) ∙ e;
            outranked = λ r lr m h.
                let (s, ls, at) = seated_was held k r m in
                let hs : slice_index_or near s 0 ≤ far near k (L q) = omega (arith, near_at layer held k s ls, ap L at) in
                let ks = keys_at key held k s ls in
                (w.keyed.order r q lr l
                ).0
                (omega (arith, low_key q l out pos, least_le near keys (far near k (L q)) k s ls hs, ks, ap key at));
          }

      pub test_justified : Justified N k L o M
      test_justified =
          record {
            size = seated_count N k o key layer held w;
            fits = fits_at;
            why = λ q l out. ⊎_elim (λ pos. (far near k (L q), witness q l out pos)) (λ z. (0, bottom q z)) (le_or_lt 1 (L q));
          }
        where
          none_low : count (upto L M 0) N ≡ 0
          none_low = omega (arith, fits_at 0 zero-le)

          -- no cached page is in layer 0, so a page there has nothing above it to show
          bottom : (q : ℕ) → L q < 1 → Witness N k L o M q 0
          bottom q z =
              record {
                covers = omega arith;
                within = zero-le;
                tight = none_low;
                outranked = λ r lr m h. absurd (omega (arith, none_low, count_pos (upto L M 0) N r lr (upto_in L M 0 r m h)));
              }

    -- ---- and back

    module _ (just : Justified N k L o M) where
      pub just_room : room near k ≡ true
      unfolding room
      just_room =
          each_in
          (suc k)
          (λ j. nat_le (near_to near k j) j)
          (λ j l. le-leb (near_to near k j) j (omega (arith, count_near j, just.fits j (omega arith))))

      below_bar : (q : ℕ) → q < N → M q ≡ false → 0 < L q → key q < bar_key near keys k (L q)
      unfolding bar_key
      below_bar q l out pos =
          let (j, wit) = just.why q l out in
          let (a, b, e, first) = far_is (L q) (lay.bounded q l) in
          let near_j : near_to near k j ≡ j = count_near j ∙ wit.tight in
          let J≤j = first j wit.covers wit.within near_j in
          let (s, ls, hs) = near_some near k (far near k (L q)) (omega arith) in
          let (t, lt, ht, page, least) = least_slot N k o key layer held w (far near k (L q)) s ls hs in
          let tN = w.holds t lt in
          let in_j : L (slice_index_or held t no_page) ≤ j = omega (arith, near_at layer held k t lt) in
          let top = wit.outranked (slice_index_or held t no_page) tN (seated_slot t lt) in_j in
          omega (arith, least, (w.keyed.order (slice_index_or held t no_page) q tN l).1 top)
        where
          seated_slot : (t : ℕ) → t < k → M (slice_index_or held t no_page) ≡ true
          seated_slot t lt = seated_in held k (slice_index_or held t no_page) t lt refl

      pub just_late : none_late N k layer key M near keys ≡ true
      unfolding none_late
      just_late = each_in N (λ q. M q || nat_eq (L q) 0 || nat_lt (key q) (bar_key near keys k (L q))) one
        where
          one : (q : ℕ) → q < N → M q || nat_eq (L q) 0 || nat_lt (key q) (bar_key near keys k (L q)) ≡ true
          one q l =
              ⊎_elim
              (λ m. or_left (M q || nat_eq (L q) 0) (nat_lt (key q) (bar_key near keys k (L q))) (or_left (M q) (nat_eq (L q) 0) m))
              (λ out.
              ⊎_elim
              (λ pos. or_right (M q || nat_eq (L q) 0) (nat_lt (key q) (bar_key near keys k (L q))) (lt-ltb (key q) (bar_key near keys k (L q)) (below_bar q l out pos)))
              (λ z. or_left (M q || nat_eq (L q) 0) (nat_lt (key q) (bar_key near keys k (L q))) (or_right (M q) (nat_eq (L q) 0) (eq-eqb (L q) 0 (omega arith))))
              (le_or_lt 1 (L q)))
              (truth (M q))

    -- the cached set is the selection exactly where the test finds room and no page too late
    pub certified :
        Same N (chosen N o L k) M ↔ ((room near k ≡ true) × (none_late N k layer key M near keys ≡ true))
    certified = (
      λ same. let just = both.0 same in (just_room just, just_late just),
      λ tests. both.1 (test_justified tests.0 tests.1),
    )
      where
        both : Same N (chosen N o L k) M ↔ Justified N k L o M
        both = selection_justified N k o L w.keyed.ranking lay M
