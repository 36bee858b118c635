-- What the search for a victim over the slots answers, from what its parts answer. Assumes nothing.
use Rattle.std.specs.Prelude.{Some, None}
use mathlib.Core.Bool.{Bool, true, false, cond, ◌&&◌}
use mathlib.Core.List.{List}
use mathlib.Core.Option.{Option, none, some, some-injective}
use mathlib.Core.Path.{Path, ◌≡◌, ap, ◌∙◌}
use Prim.Native.Nat.{ℕ, suc, ◌≤◌}
use native.Mathlib.Omega.{arith}
use lib.Dec.{eqb, leb}
use Rattle.paging.specs.Sets.{first}
use Rattle.paging.specs.Words.{first_some}
use Rattle.ranking.specs.Key.{page_of}
use Rattle.slots.specs.Slots.{found, near_to, least_key}
use Rattle.serve.specs.Step.{least_page, search_to}

-- the search does not go past layer k
pub search_small : (near : List ℕ) (k i j : ℕ) → Path (Option ℕ) (search_to near k i) (some j) → j ≤ k
unfolding search_to
search_small near k i j e = go (eqb i 0) e
  where
    test : ℕ → Bool
    test j = leb i j && eqb (near_to near k j) j

    go : (x : Bool) → Path (Option ℕ) (cond x (some k) (first (suc k) (λ j. leb i j && eqb (near_to near k j) j))) (some j) → j ≤ k
    go true e = omega (arith, some-injective k j e)
    go false e = omega (arith, (first_some (suc k) (λ j. leb i j && eqb (near_to near k j) j) j e).below)

pub page_found :
    (near keys : List ℕ) (k j key page : ℕ) (x : Option ℕ) →
    Path (Option ℕ) x (some j) →
    key ≡ least_key near keys j k →
    page ≡ page_of key →
    Some page ≡ found (least_page near keys k x)
unfolding least_page
page_found near keys k j key page x e ek ep =
    rw e
    (ap Some (ep ∙ ap page_of ek))

pub page_none : (near keys : List ℕ) (k : ℕ) (x : Option ℕ) → Path (Option ℕ) x none → None ≡ found (least_page near keys k x)
unfolding least_page
page_none near keys k x e = rw e
