-- `files::looked` meets its contract, by its calls in their order. Assumes nothing.
use mathlib.Core.Path.{ap, ◌∙◌}
use Rattle.refusals.specs.Numbers.{number_in}
use Rattle.refusals.specs.Laws.{number_of_err}
use Rattle.hexadecimal.specs.Laws.{wrote_then}
use Rattle.files.specs.Files.{looked_texts}
use Rattle.files.proofs.looked.Goals as goal

pub returns : goal.returns
unfolding looked_texts
returns c =
    let is = ap number_in c.err-refusal.ensures.value ∙ (number_of_err _ ∙ c.look_refusal.ensures) in
    wrote_then
    (rw is at c.first_word-next.ensures)
    (rw c.look.ensures at c.then_bytes.ensures)
