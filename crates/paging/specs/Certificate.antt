-- The certificate of a cached set: what it takes for a set of pages to be the one that is selected, without building it
-- layer by layer. Assumes nothing.
use Rattle.std.specs.Prelude.{Bool, true, false, ◌&&◌, ◌≡◌, ℕ, ◌≤◌, ◌<◌, nat_le}
use Rattle.std.proofs.Common.{sym, ◌∙◌, arith, leb-true, le-leb}
use Rattle.paging.specs.Sets.{Pages, ◌∈◌, Same, count}
use Rattle.paging.specs.Tests.{and_in, and_left, and_right}
use Rattle.paging.specs.Count.{count_same, same_count}

-- the members of m in layers up to j
unfoldable pub upto : (ℕ → ℕ) → Pages → ℕ → Pages
upto L m j q = m q && nat_le (L q) j

pub upto_in : (L : ℕ → ℕ) (m : Pages) (j q : ℕ) → q ∈ m → L q ≤ j → q ∈ upto L m j
unfolding upto
upto_in L m j q e l = and_in (m q) (nat_le (L q) j) e (le-leb (L q) j l)

pub upto_member : (L : ℕ → ℕ) (m : Pages) (j q : ℕ) → q ∈ upto L m j → q ∈ m
unfolding upto
upto_member L m j q e = and_left (m q) (nat_le (L q) j) e

pub upto_layer : (L : ℕ → ℕ) (m : Pages) (j q : ℕ) → q ∈ upto L m j → L q ≤ j
unfolding upto
upto_layer L m j q e = leb-true (L q) j (and_right (m q) (nat_le (L q) j) e)

-- how many they are
abbrev pub held : ℕ → (ℕ → ℕ) → Pages → ℕ → ℕ
held N L m j = count (upto L m j) N

-- Why a page q is not in m: the layers up to j, q's among them, hold j pages of m, and all of those outrank q.
pub record Witness (N k : ℕ) (L : ℕ → ℕ) (o : ℕ → ℕ → Bool) (m : Pages) (q j : ℕ) : Type 0 where
  pub covers : L q ≤ j
  pub within : j ≤ k
  pub tight : held N L m j ≡ j
  pub outranked : (r : ℕ) → r < N → r ∈ m → L r ≤ j → o r q ≡ true

-- The certificate: m has k pages, at most j of them in the layers up to j, and each page that is left out has a witness.
pub record Justified (N k : ℕ) (L : ℕ → ℕ) (o : ℕ → ℕ → Bool) (m : Pages) : Type 0 where
  pub size : count m N ≡ k
  pub fits : (j : ℕ) → j ≤ k → held N L m j ≤ j
  pub why : (q : ℕ) → q < N → m q ≡ false → (j : ℕ) × Witness N k L o m q j

-- ---- it speaks of pages below N only

pub same_held : (N : ℕ) (L : ℕ → ℕ) (f g : Pages) → Same N f g → (j : ℕ) → held N L f j ≡ held N L g j
same_held N L f g same j =
    count_same
    (upto L f j)
    (upto L g j)
    N
    (λ q l u. upto_in L g j q (sym (same q l) ∙ upto_member L f j q u) (upto_layer L f j q u))
    (λ q l u. upto_in L f j q (same q l ∙ upto_member L g j q u) (upto_layer L g j q u))

module _ (N k : ℕ) (L : ℕ → ℕ) (o : ℕ → ℕ → Bool) (f g : Pages) (same : Same N f g) where
  same_witness : (q j : ℕ) → Witness N k L o f q j → Witness N k L o g q j
  same_witness q j w =
      record {
        covers = w.covers;
        within = w.within;
        tight = sym (same_held N L f g same j) ∙ w.tight;
        outranked = λ r l e h. w.outranked r l (same r l ∙ e) h;
      }

  pub same_justified : Justified N k L o f → Justified N k L o g
  same_justified w =
      record {
        size = sym (same_count f g N same) ∙ w.size;
        fits = λ j h. omega (arith, same_held N L f g same j, w.fits j h);
        why = λ q l e.
            let (j, x) = w.why q l (same q l ∙ e) in
            (j, same_witness q j x);
      }
