-- `begin::limits_refusal` meets its contract, by its tests in their order. Assumes nothing.
use Rattle.std.proofs.Common.{⊎_elim}
use native.Mathlib.Omega.{arith}
use borrow.Author.Rules.{rules}
use Rattle.begin.specs.LimitLaws.{limits_pages, limits_slots, limits_none}
use Rattle.begin.proofs.limits_refusal.Goals as goal
use Rattle.begin.proofs.limits_refusal.Goals.{then-slots-lt1-via-then-slots-lt1, then-slots-lt1-via-else-slots-lt1+then-slotlimit-slots, then-slots-lt1-via-else-slots-lt1+else-slotlimit-slots+then-pages-slots}

pub returns-then-pages-lt1 : goal.returns-then-pages-lt1
returns-then-pages-lt1 c =
    limits_pages _ _
    (λ h. ⊎_elim (λ z. omega arith) (λ z. omega arith) c.then-pages-lt1.either)

pub returns-then-slots-lt1 : goal.returns-then-slots-lt1
returns-then-slots-lt1 c =
    limits_slots _ _ (search rules) (search rules)
    (λ h. elim c.then-slots-lt1.branch [
      | then-slots-lt1-via-then-slots-lt1 w ↦ omega arith
      | then-slots-lt1-via-else-slots-lt1+then-slotlimit-slots w ↦ omega arith
      | then-slots-lt1-via-else-slots-lt1+else-slotlimit-slots+then-pages-slots w ↦ omega arith
    ])

pub returns : goal.returns
returns c = limits_none _ _ (search rules, search rules, search rules, search rules, search rules)
