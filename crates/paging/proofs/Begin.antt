-- The starts: k different pages, each alone in its layer, or k free slots. Assumes nothing.
use Rattle.std.specs.Prelude.{Bool, false, List, ◌⊎◌, ◌≡◌, ℕ, suc, ◌≤◌, ◌<◌, length, nat_eq, slice_index_or}
use Rattle.std.proofs.Math.Logic.{inl, inr}
use Rattle.std.proofs.Common.{⊎_elim, sym, ◌∙◌, zero-le, arith}
use Rattle.std.proofs.Math.Option.{Option, none, some}
use Rattle.std.proofs.Math.Path.{Path, refl, ap}
use borrow.Author.Tests.{eqb-true, eq-eqb}
use Rattle.paging.specs.Sets.{◌∈◌, count, first}
use Rattle.paging.specs.Layers.{in_layer, StartList, place, start_layer, Layered}
use Rattle.paging.specs.Best.{State, seen, Start, start, cold}
use Rattle.paging.specs.Tests.{clash, le_or_lt, before}
use Rattle.paging.specs.Count.{single, count_same, count_single, single_inside}
use Rattle.paging.specs.Words.{first_none, first_some}
use Rattle.paging.specs.Certificate.{held, Witness, Justified}
use Rattle.paging.proofs.Update.{held_top}
use Rattle.paging.proofs.Lower.{seen_layer, seen_of, start_fits}
use Rattle.paging.specs.Choice.{between}

module _ {N k : ℕ} (ps : List ℕ) (list : StartList N k ps) where
  abbrev P : ℕ → ℕ
  P t = slice_index_or ps t 0

  -- a page is the start page of its layer, or in layer 0 and no start page
  abbrev pub Placed : ℕ → Type 0
  Placed q = (t : ℕ) × (t < k) × (P t ≡ q) × (start_layer ps q ≡ suc t)

  abbrev pub Other : ℕ → Type 0
  Other q = (start_layer ps q ≡ 0) × ((t : ℕ) → t < k → P t ≡ q → ⊥)

  pub placed_or : (q : ℕ) → Placed q ⊎ Other q
  unfolding start_layer
  placed_or q = go (first (length ps) (λ i. nat_eq (P i) q)) refl
    where
      go : (x : Option ℕ) → Path (Option ℕ) (first (length ps) (λ i. nat_eq (P i) q)) x → Placed q ⊎ Other q
      go none ex =
          inr (
            ap place ex,
            λ t lt e. clash (eq-eqb (P t) q e) (first_none (length ps) (λ i. nat_eq (P i) q) ex t (omega (arith, list.entries))),
          )
      go (some t) ex =
          let f = first_some (length ps) (λ i. nat_eq (P i) q) t ex in
          inl (t, omega (arith, f.below, list.entries), eqb-true (P t) q f.member, ap place ex)

  -- the start page t is in layer t + 1
  pub layer_of : (t : ℕ) → t < k → start_layer ps (P t) ≡ suc t
  layer_of t l =
      ⊎_elim (λ c. c.3 ∙ ap suc (list.once c.0 t c.1 l c.2)) (λ c. absurd (c.1 t l refl)) (placed_or (P t))

  -- the pages seen are those of the list
  pub seen_in : (t : ℕ) → t < k → P t ∈ seen (start_layer ps)
  seen_in t l = seen_of (start_layer ps) (P t) (omega (arith, layer_of t l))

  pub seen_was : (q : ℕ) → q ∈ seen (start_layer ps) → (t : ℕ) × (t < k) × (P t ≡ q)
  seen_was q e =
      ⊎_elim
      (λ c. (c.0, c.1, c.2))
      (λ c. absurd (omega (arith, c.0, seen_layer (start_layer ps) q e)))
      (placed_or q)

  -- two pages of one layer above 0 are one
  start_single : (q u : ℕ) → 0 < start_layer ps q → start_layer ps q ≡ start_layer ps u → q ≡ u
  start_single q u pos e =
      ⊎_elim
      (λ c. ⊎_elim (λ d. sym c.2 ∙ (ap P (omega (arith, c.3, d.3)) ∙ d.2)) (λ d. absurd (omega (arith, d.0))) (placed_or u))
      (λ c. absurd (omega (arith, c.0)))
      (placed_or q)

  start_layered : 0 < k → Layered N k 0 (start_layer ps)
  start_layered pos =
      record {
        few = zero-le;
        bounded = λ q l. ⊎_elim (λ c. omega (arith, c.1, c.3)) (λ c. omega (arith, c.0)) (placed_or q);
        filled = filled;
        last = λ _. last;
        gap = λ q l h. h;
        alone = λ z q u lq lu up e. start_single q u up e;
      }
    where
      filled : (j : ℕ) → 0 < j → j ≤ k → (q : ℕ) × (q < N) × (start_layer ps q ≡ j)
      filled j a b =
          let (i, e) = before j a in
          (P i, list.below i (omega arith), layer_of i (omega arith) ∙ e)

      last : count (in_layer (start_layer ps) k) N ≡ 1
      last =
          let (v, l, e) = filled k pos (omega arith) in
          count_same
          (in_layer (start_layer ps) k)
          (single v)
          N
          (λ q lq m. eq-eqb q v (sole q v e (eqb-true (start_layer ps q) k m)))
          (single_inside v N (in_layer (start_layer ps) k) (eq-eqb (start_layer ps v) k e))
          ∙ count_single v N l
        where
          sole : (q v : ℕ) → start_layer ps v ≡ k → start_layer ps q ≡ k → q ≡ v
          sole q v e f = start_single q v (omega arith) (f ∙ sym e)

  -- document 01's start
  pub start_of : 0 < k → Start N k (start ps)
  start_of pos =
      record {
        layered = start_layered pos;
        single = λ q u lq lu up e. start_single q u up e;
        fresh = refl;
      }

-- a start with no page in any slot
pub cold_start : (N k : ℕ) → Start N k (cold k)
cold_start N k =
    record {
      layered =
          record {
            few = omega arith;
            bounded = λ q l. zero-le;
            filled = λ j lo hi. absurd (omega arith);
            last = λ h. absurd (omega arith);
            gap = λ q l h. absurd (omega arith);
            alone = λ z q u lq lu up e. absurd (omega arith);
          };
      single = λ q u lq lu up e. absurd (omega arith);
      fresh = refl;
    }

-- at a full start the pages seen have their certificate, whatever the ranking
pub start_justified :
    {N k : ℕ} (s : State) (o : ℕ → ℕ → Bool) → Start N k s → s.free ≡ 0 → Justified N k s.layer o (seen s.layer)
start_justified {N} {k} s o st full =
    record { size = size; fits = λ j h. omega (arith, fits j); why = λ q l e. (0, witness q e) }
  where
    fits : (j : ℕ) → held N s.layer (seen s.layer) j ≤ j
    fits j = omega (arith, start_fits s st j (omega arith))

    size : count (seen s.layer) N ≡ k
    size =
        omega (
          arith,
          fits k,
          between st.layered (seen s.layer) 0 (omega arith) k zero-le (omega arith) (λ q l h. seen_of s.layer q h),
          held_top N k s.layer (seen s.layer) st.layered.bounded,
        )

    witness : (q : ℕ) → seen s.layer q ≡ false → Witness N k s.layer o (seen s.layer) q 0
    witness q e =
        record {
          covers = ⊎_elim (λ h. absurd (clash (seen_of s.layer q h) e)) (λ h. omega arith) (le_or_lt 1 (s.layer q));
          within = zero-le;
          tight = omega (arith, fits 0);
          outranked = λ r l m h. absurd (omega (arith, seen_layer s.layer r m));
        }
