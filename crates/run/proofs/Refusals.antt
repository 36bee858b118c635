-- The kinds of an event, as a `match` tells them apart: an event that is no refusal. Assumes nothing.
use mathlib.Core.List.{[], ◌∷◌}
use mathlib.Core.Logic.{⊎_elim}
use mathlib.Core.Path.{◌≡◌}
use Prim.Native.Nat.{ℕ}
use native.Mathlib.Omega.{arith}
use denote.Enum.Declared.{tag_of}
use types.Run.{OneOf}
use Rattle.refusals.specs.declared.Refusal.{Refusal}
use Rattle.serve.specs.declared.Event.{Event}
use Rattle.serve.specs.declared.Event.TheVariants.{Hit, Miss, Refused}
use Rattle.serve.specs.contracts.Event.{the_type}

-- the third kind is the refusal, so that one of the first two is none
pub no_refusal : (e : Event) (n : Refusal) → OneOf (0 ∷ 1 ∷ []) (tag_of the_type e) → e ≡ Refused n → ⊥
no_refusal (Hit slot) n k h = let o : ◌≡◌ {A = ℕ} 0 1 = cc in omega arith
no_refusal (Miss slot victim) n k h = let o : ◌≡◌ {A = ℕ} 0 1 = cc in omega arith
no_refusal (Refused m) n k h = ⊎_elim (λ z. omega arith) (λ z. omega arith) k

-- a refusal with another number
pub other_refusal : (m n : Refusal) → (m ≡ n → ⊥) → Refused m ≡ Refused n → ⊥
other_refusal m n ne h = ne cc
