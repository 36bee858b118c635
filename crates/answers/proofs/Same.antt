-- One of two answers, by the library's comparison of a word with a text. Assumes nothing.
use Rattle.std.specs.Prelude.{Bool, true, false, List, ◌≡◌, ℕ, nat_eq, if◌then◌else◌}
use Rattle.std.proofs.lemmas.Bool.Decides.{Decides-eqb}
use Rattle.std.proofs.lemmas.Slice.Eq.{slice_eq-Decides}
use lib.Pointwise.{pointwise}
use Rattle.hexadecimal.specs.Room.{Wrote}
use Rattle.fields.specs.Fields.{same_text}
use Rattle.answers.specs.Answers.{Texts}
use Rattle.answers.specs.Laws.{same_wrote, other_wrote}

module _ {s : List ℕ} {at r : ℕ} {last : List ℕ} (kind text : List ℕ) {word : List ℕ} {t : Bool} where
  pub is_word :
      {xs : Texts} (ys : Texts) →
      t ≡ true →
      t ≡ pointwise nat_eq kind text →
      text ≡ word →
      Wrote s at xs r last →
      Wrote s at (if same_text kind word then xs else ys) r last
  is_word ys is told w wrote = rw (← w) (same_wrote (slice_eq-Decides Decides-eqb kind text t told) ys is wrote)

  pub other_word :
      (xs : Texts) {ys : Texts} →
      t ≡ false →
      t ≡ pointwise nat_eq kind text →
      text ≡ word →
      Wrote s at ys r last →
      Wrote s at (if same_text kind word then xs else ys) r last
  other_word xs is told w wrote = rw (← w) (other_wrote (slice_eq-Decides Decides-eqb kind text t told) xs is wrote)
