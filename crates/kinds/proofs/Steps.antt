-- The answer of a line by how many words it has. Assumes nothing.
use mathlib.Core.List.{List}
use mathlib.Core.Path.{◌≡◌}
use Prim.Native.Nat.{ℕ, suc}
use borrow.Author.Tests.{ne_eqb}
use Rattle.hexadecimal.specs.Room.{Wrote}
use Rattle.fields.specs.Fields.{word_of, separators}
use Rattle.answers.specs.Answers.{bad_line}
use Rattle.kinds.specs.Kinds.{of_words, line_answer}

module _ {s : List ℕ} {at r : ℕ} {last : List ℕ} where
  -- no question has another number of words
  pub other_count :
      (n : ℕ) (kind line : List ℕ) →
      (n ≡ 2 → ⊥) → (n ≡ 3 → ⊥) → (n ≡ 4 → ⊥) → (n ≡ 5 → ⊥) → (n ≡ 7 → ⊥) →
      Wrote s at bad_line r last →
      Wrote s at (of_words n kind line) r last
  unfolding of_words
  other_count n kind line a b d e f wrote =
      rw (ne_eqb n 2 a, ne_eqb n 3 b, ne_eqb n 4 d, ne_eqb n 5 e, ne_eqb n 7 f) wrote

  pub line_wrote :
      (line : List ℕ) {n k : ℕ} {kind : List ℕ} →
      n ≡ k →
      n ≡ suc (separators 32 line) →
      kind ≡ word_of 0 line →
      Wrote s at (of_words k kind line) r last →
      Wrote s at (line_answer line) r last
  unfolding line_answer
  line_wrote line is e f wrote = rw (← e, ← f, is) wrote
