-- What is special to a run with no free slot, and to one request more; and that `Least` speaks of pages below N only.
-- Assumes nothing.
use Rattle.std.specs.Prelude.{true, false, List, [], ◌∷◌, ◌++◌, ◌≡◌, refl, ℕ, ◌+◌, ◌<◌, nat_eq}
use Rattle.std.proofs.Common.{⊎_elim, sym, ◌∙◌, add-zero, arith, eqb-true, lt-ltb, le-ltb}
use Rattle.std.proofs.lemmas.Bool.{eqb-false}
use Rattle.paging.specs.Sets.{Pages, Same, bit}
use Rattle.paging.specs.Layers.{next}
use Rattle.paging.specs.Schedule.{Below, Least}
use Rattle.paging.specs.Best.{State, serve, after}
use Rattle.paging.specs.Tests.{truth, positive}
use Rattle.paging.proofs.Upper.{loads_same}

-- a request to a full run: the layers move, and a page of L_0 adds 1 to best
pub serve_full_is :
    (k : ℕ) (s : State) (p : ℕ) →
    s.free ≡ 0 →
    serve k s p ≡ record { free = 0; layer = next k p s.layer; best = s.best + bit (nat_eq (s.layer p) 0) }
unfolding serve
serve_full_is k s p z = ⊎_elim new known (truth (nat_eq (s.layer p) 0))
  where
    new : nat_eq (s.layer p) 0 ≡ true → serve k s p ≡ record { free = 0; layer = next k p s.layer; best = s.best + bit (nat_eq (s.layer p) 0) }
    new e = rw (e, le-ltb 0 (s.layer p) (omega (arith, eqb-true (s.layer p) 0 e)), z)

    known : nat_eq (s.layer p) 0 ≡ false → serve k s p ≡ record { free = 0; layer = next k p s.layer; best = s.best + bit (nat_eq (s.layer p) 0) }
    known e = rw (e, lt-ltb 0 (s.layer p) (positive (s.layer p) (eqb-false (s.layer p) 0 e)), z, add-zero s.best)

-- one request more
pub after_more : (k : ℕ) (s : State) (ps : List ℕ) (p : ℕ) → after k s (ps ++ (p ∷ [])) ≡ serve k (after k s ps) p
unfolding after
after_more k s [] p = refl
after_more k s (q ∷ ps) p = after_more k (serve k s q) ps p

pub below_more : (N : ℕ) (ps : List ℕ) (p : ℕ) → Below N ps → p < N → Below N (ps ++ (p ∷ []))
below_more N [] p b l = (l, tt)
below_more N (q ∷ ps) p b l = (b.0, below_more N ps p b.1 l)

-- the first set matters only below N
pub least_same :
    (N k : ℕ) (S T : Pages) (ps : List ℕ) (b : ℕ) → Same N S T → Least N k S ps b → Least N k T ps b
least_same N k S T ps b same w =
    record {
      some = (
        w.some.0,
        w.some.1,
        sym (loads_same N S T w.some.0 same) ∙ w.some.2,
      );
      none_fewer = λ Ts serves. omega (arith, w.none_fewer Ts serves, loads_same N S T Ts same);
    }
