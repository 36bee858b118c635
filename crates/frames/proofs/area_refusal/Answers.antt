-- `frames::area_refusal` meets its contract, by its tests. Assumes nothing.
use mathlib.Core.Bool.{true}
use mathlib.Core.Path.{◌≡◌, sym, ◌∙◌}
use native.Mathlib.Omega.{arith}
use borrow.Author.Rules.{rules}
use Rattle.run.specs.Sound.{sound}
use Rattle.run.proofs.SoundLaws.{sound_iff}
use Rattle.frames.specs.Laws.{area_unsound, area_page, area_size, area_right}
use Rattle.frames.proofs.area_refusal.Goals as goal
use Rattle.frames.proofs.area_refusal.Goals.{Else-not-is_sound}

pub returns-then-not-is_sound : goal.returns-then-not-is_sound
returns-then-not-is_sound c = area_unsound _ _ _ (sym c.is_sound.ensures ∙ c.if-not-is_sound.true)

-- past the first test
passed : (c : Else-not-is_sound) → sound c.args.run ≡ true
passed c = sym c.is_sound.ensures ∙ c.if-not-is_sound.false

pub overflow_mul-frames : goal.overflow_mul-frames
overflow_mul-frames c = omega (arith, ((sound_iff _).0 (passed (goal.at.overflow_mul-frames c).Else-not-is_sound)).slots)

pub returns-then-pages-page : goal.returns-then-pages-page
returns-then-pages-page c = area_page _ _ _ (passed (goal.at.returns-then-pages-page c).Else-not-is_sound) (search rules)

pub returns-then-size-frames : goal.returns-then-size-frames
returns-then-size-frames c =
    area_size _ _ _ (passed (goal.at.returns-then-size-frames c).Else-not-is_sound) (search rules) c.if-size-frames.true

pub returns : goal.returns
returns c =
    area_right _ _ _ (passed (goal.at.returns c).Else-not-is_sound) (search rules) c.if-size-frames.false
