-- Document 01, the answers that have no next run: layer, certain, the plain selection. Assumes nothing.
use Rattle.std.specs.Prelude.{false, ◌&&◌, ℕ, replicate, if◌then◌else◌, None}
use Rattle.run.specs.declared.Run.{Run}
use Rattle.run.specs.declared.LayerAnswer.{LayerAnswer}
use Rattle.run.specs.declared.CertainAnswer.{CertainAnswer}
use Rattle.run.specs.declared.SelectionAnswer.{SelectionAnswer}
use Rattle.refusals.specs.Numbers.{given}
use Rattle.paging.specs.Sets.{Pages, ◌=?◌, ◌<?◌, ◌≤?◌, unless◌give◌else◌, count, table}
use Rattle.paging.specs.Layers.{in_layer}
use Rattle.begin.specs.Limits.{most_pages}
use Rattle.run.specs.Numbers.{layer}
use Rattle.run.specs.Cached.{selection}
use Rattle.run.specs.Sound.{sound}

-- Layer and certain: 1, 8. Plain selection of a run: 1. 0 where the question is answered.
unfoldable pub refusal : Run → ℕ → ℕ
refusal r p = unless sound r give 1 else unless p <? r.pages give 8 else 0

-- Every value beside a refusal is 0, or the empty set.
unfoldable pub layer_answer : Run → ℕ → LayerAnswer
layer_answer r p = record { layer = if refusal r p =? 0 then layer r p else 0; refusal = given (refusal r p) }

-- A page is called certain if it is alone in its layer 1 to k.
unfoldable pub certain : Run → Pages
certain r p = 1 ≤? layer r p && count (in_layer (layer r) (layer r p)) r.pages =? 1

unfoldable pub certain_answer : Run → ℕ → CertainAnswer
certain_answer r p = record { certain = refusal r p =? 0 && certain r p; refusal = given (refusal r p) }

-- The plain selection answers a set of pages by value.
unfoldable pub selection_answer : Run → SelectionAnswer
selection_answer r =
    unless sound r give record { pages = replicate most_pages false; refusal = given 1 } else
    record { pages = table most_pages r.pages false (selection r); refusal = None }
