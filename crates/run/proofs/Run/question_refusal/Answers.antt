-- `Run::question_refusal` meets its contract, by its tests. Assumes nothing.
use mathlib.Core.Path.{sym, ◌∙◌}
use borrow.Author.Rules.{rules}
use Rattle.run.proofs.Asking.{question_unsound, question_page, question_none}
use Rattle.run.proofs.Run.question_refusal.Goals as goal

pub returns-then-not-is_sound : goal.returns-then-not-is_sound
returns-then-not-is_sound c = question_unsound _ _ (sym c.is_sound.ensures ∙ c.if-not-is_sound.true)

pub returns-then-self-page : goal.returns-then-self-page
returns-then-self-page c = question_page _ _ (sym c.is_sound.ensures ∙ c.if-not-is_sound.false) (search rules)

pub returns : goal.returns
returns c = question_none _ _ (sym c.is_sound.ensures ∙ c.if-not-is_sound.false) (search rules)
