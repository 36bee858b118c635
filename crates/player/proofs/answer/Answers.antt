-- `player::answer` meets its contract: what fits is written, and nothing else. Assumes nothing.
use mathlib.Core.Path.{sym, ◌∙◌}
use Rattle.player.specs.Laws.{no_fit, answer_fits, answer_told}
use Rattle.player.proofs.answer.Goals as goal

pub returns-then-not-fits : goal.returns-then-not-fits
returns-then-not-fits c =
    let all = no_fit _ _ (sym c.fits.ensures ∙ c.if-not-fits.true) in record { offset = all.0; text = all.1 }

pub tell_answer-requires : goal.tell_answer-requires
tell_answer-requires c = answer_fits _ _ (sym c.fits.ensures ∙ c.if-not-fits.false)

pub returns : goal.returns
returns c =
    let all = answer_told _ _ (sym c.fits.ensures ∙ c.if-not-fits.false) _ _ c.tell_answer.ensures.offset c.tell_answer.ensures.text in record { offset = all.0; text = all.1 }
