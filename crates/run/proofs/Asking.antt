-- The questions as the code takes them: the refusals first, then the answer. Assumes nothing.
use Rattle.std.proofs.Math.Bool.{Bool}
use Rattle.std.specs.Prelude.{true, false, List, ◌⊎◌, ◌≡◌, ℕ, ◌≤◌, ◌<◌, replicate, nat_lt, None}
use Rattle.refusals.specs.Numbers.{given}
use Rattle.std.proofs.Common.{inl, inr, ◌∙◌, arith}
use Rattle.std.proofs.Math.Path.{sym}
use borrow.Author.Tests.{lt-ltb, le-ltb, ltb-true, ne_eqb}
use Rattle.run.specs.declared.Run.{Run}
use Rattle.run.specs.declared.LayerAnswer.{LayerAnswer}
use Rattle.run.specs.declared.CertainAnswer.{CertainAnswer}
use Rattle.run.specs.declared.SelectionAnswer.{SelectionAnswer}
use Rattle.paging.specs.Selection.{chosen}
use Rattle.paging.specs.Tests.{truth}
use Rattle.ranking.specs.Key.{Keyed, by_key}
use Rattle.ranking.proofs.KeyLaws.{keyed_same}
use Rattle.layers.specs.Seen.{alone_in}
use Rattle.selection.specs.Marks.{marks}
use Rattle.selection.specs.Laws.{marks_same, chosen_ranked}
use Rattle.begin.specs.Limits.{most_pages}
use Rattle.run.specs.Numbers.{layer, ranks}
use Rattle.run.specs.Cached.{selection}
use Rattle.run.specs.Sound.{Sound, sound}
use Rattle.run.specs.Questions.{refusal, layer_answer, certain, certain_answer, selection_answer}
use Rattle.run.proofs.SoundLaws.{sound_iff}

module _ (r : Run) (p : ℕ) where
  pub question_unsound : sound r ≡ false → 1 ≡ refusal r p
  unfolding refusal
  question_unsound e = rw e

  pub question_page : sound r ≡ true → r.pages ≤ p → 8 ≡ refusal r p
  unfolding refusal
  question_page e h = rw (e, le-ltb p r.pages h)

  pub question_none : sound r ≡ true → p < r.pages → 0 ≡ refusal r p
  unfolding refusal
  question_none e l = rw (e, lt-ltb p r.pages l)

  pub question_allowed : refusal r p ≡ 0 → Sound r × (p < r.pages)
  unfolding refusal
  question_allowed h = go (truth (sound r)) (truth (nat_lt p r.pages))
    where
      Test : Bool → Type 0
      Test b = (b ≡ true) ⊎ (b ≡ false)

      go : Test (sound r) → Test (nat_lt p r.pages) → Sound r × (p < r.pages)
      go (inr a) b = absurd (omega (arith, rw a at h))
      go (inl a) (inr b) = absurd (omega (arith, rw (a, b) at h))
      go (inl a) (inl b) = ((sound_iff r).0 a, ltb-true p r.pages b)

  module _ (n : ℕ) (e : n ≡ refusal r p) where
    pub layer_refused : (n ≡ 0 → ⊥) → ◌≡◌ {A = LayerAnswer} (record { layer = 0; refusal = given n }) (layer_answer r p)
    unfolding layer_answer
    layer_refused ne = rw (ne_eqb (refusal r p) 0 (λ z. ne (e ∙ z)), e)

    pub layer_told : n ≡ 0 → ◌≡◌ {A = LayerAnswer} (record { layer = layer r p; refusal = None }) (layer_answer r p)
    unfolding layer_answer
    layer_told z = let none : refusal r p ≡ 0 = sym e ∙ z in rw none

    pub certain_refused :
        (n ≡ 0 → ⊥) → ◌≡◌ {A = CertainAnswer} (record { certain = false; refusal = given n }) (certain_answer r p)
    unfolding certain_answer
    certain_refused ne = rw (ne_eqb (refusal r p) 0 (λ z. ne (e ∙ z)), e)

    pub certain_told :
        (c : Bool) →
        n ≡ 0 →
        c ≡ alone_in r.pages (layer r) p →
        ◌≡◌ {A = CertainAnswer} (record { certain = c; refusal = None }) (certain_answer r p)
    unfolding certain_answer certain alone_in
    certain_told c z ec = let none : refusal r p ≡ 0 = sym e ∙ z in rw (none, ec)

module _ (r : Run) where
  pub selection_refused :
      sound r ≡ false → ◌≡◌ {A = SelectionAnswer} (record { pages = replicate most_pages false; refusal = given 1 }) (selection_answer r)
  unfolding selection_answer
  selection_refused e = rw e

  pub selection_told :
      (set : List Bool) (key : ℕ → ℕ) →
      sound r ≡ true →
      Keyed r.pages (ranks r) key →
      set ≡ marks r.pages (chosen r.pages (by_key key) (layer r) r.slots) →
      ◌≡◌ {A = SelectionAnswer} (record { pages = set; refusal = None }) (selection_answer r)
  unfolding selection_answer marks
  selection_told set key e keyed es =
      let same = marks_same r.pages (chosen r.pages (by_key key) (layer r) r.slots) (selection r) (chosen_ranked r.pages (by_key key) (ranks r) (layer r) (keyed_same r.pages (ranks r) key keyed) r.slots) in
      rw (e, es ∙ same)
