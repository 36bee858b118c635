-- `kinds::answer` meets its contract, by how many words there are and which is the first. Assumes nothing.
use mathlib.Core.Path.{refl}
use native.Mathlib.Omega.{arith}
use Rattle.kinds.specs.Kinds.{of_words, two_words, three_words, four_words, five_words, seven_words}
use Rattle.answers.proofs.Same.{is_word, other_word}
use Rattle.kinds.proofs.Steps.{other_count, line_wrote}
use Rattle.kinds.proofs.answer.Goals as goal
use Rattle.kinds.proofs.answer.Goals.{in_default-via-in-2-4+else-eq-4, in_default-via-in-3-6+else-eq-10, in_default-via-in-4+else-eq-11, in_default-via-in-5-2+else-eq-13, in_default-via-in-7+else-eq-14, in_default-via-in_default-1}

pub returns-in-2 : goal.returns-in-2
unfolding of_words two_words
returns-in-2 c = line_wrote _ c.in-2.is c.words_in.ensures c.word-kind.ensures (search (is_word, other_word))

pub returns-in-2-2 : goal.returns-in-2-2
unfolding of_words two_words
returns-in-2-2 c = line_wrote _ c.in-2.is c.words_in.ensures c.word-kind.ensures (search (is_word, other_word) depth 16 fits 5000)

pub returns-in-2-3 : goal.returns-in-2-3
unfolding of_words two_words
returns-in-2-3 c = line_wrote _ c.in-2.is c.words_in.ensures c.word-kind.ensures (search (is_word, other_word) depth 16 fits 5000)

pub returns-in-2-4 : goal.returns-in-2-4
unfolding of_words two_words
returns-in-2-4 c = line_wrote _ c.in-2.is c.words_in.ensures c.word-kind.ensures (search (is_word, other_word) depth 16 fits 5000)

pub returns-in-3 : goal.returns-in-3
unfolding of_words three_words
returns-in-3 c = line_wrote _ c.in-3.is c.words_in.ensures c.word-kind.ensures (search (is_word, other_word))

pub returns-in-3-2 : goal.returns-in-3-2
unfolding of_words three_words
returns-in-3-2 c = line_wrote _ c.in-3.is c.words_in.ensures c.word-kind.ensures (search (is_word, other_word) depth 16 fits 5000)

pub returns-in-3-3 : goal.returns-in-3-3
unfolding of_words three_words
returns-in-3-3 c = line_wrote _ c.in-3.is c.words_in.ensures c.word-kind.ensures (search (is_word, other_word) depth 16 fits 5000)

pub returns-in-3-4 : goal.returns-in-3-4
unfolding of_words three_words
returns-in-3-4 c = line_wrote _ c.in-3.is c.words_in.ensures c.word-kind.ensures (search (is_word, other_word) depth 16 fits 5000)

pub returns-in-3-5 : goal.returns-in-3-5
unfolding of_words three_words
returns-in-3-5 c = line_wrote _ c.in-3.is c.words_in.ensures c.word-kind.ensures (search (is_word, other_word) depth 16 fits 5000)

pub returns-in-3-6 : goal.returns-in-3-6
unfolding of_words three_words
returns-in-3-6 c = line_wrote _ c.in-3.is c.words_in.ensures c.word-kind.ensures (search (is_word, other_word) depth 16 fits 5000)

pub returns-in-4 : goal.returns-in-4
unfolding of_words four_words
returns-in-4 c = line_wrote _ c.in-4.is c.words_in.ensures c.word-kind.ensures (search (is_word, other_word))

pub returns-in-5 : goal.returns-in-5
unfolding of_words five_words
returns-in-5 c = line_wrote _ c.in-5.is c.words_in.ensures c.word-kind.ensures (search (is_word, other_word))

pub returns-in-5-2 : goal.returns-in-5-2
unfolding of_words five_words
returns-in-5-2 c = line_wrote _ c.in-5.is c.words_in.ensures c.word-kind.ensures (search (is_word, other_word) depth 16 fits 5000)

pub returns-in-7 : goal.returns-in-7
unfolding of_words seven_words
returns-in-7 c = line_wrote _ c.in-7.is c.words_in.ensures c.word-kind.ensures (search (is_word, other_word))

pub returns-in_default : goal.returns-in_default
unfolding of_words two_words three_words four_words five_words seven_words
returns-in_default c =
    elim c.in_default.branch [
      | in_default-via-in-2-4+else-eq-4 w ↦ line_wrote _ w.in-2.is c.words_in.ensures c.word-kind.ensures (search other_word depth 16 fits 5000)
      | in_default-via-in-3-6+else-eq-10 w ↦ line_wrote _ w.in-3.is c.words_in.ensures c.word-kind.ensures (search other_word depth 16 fits 5000)
      | in_default-via-in-4+else-eq-11 w ↦ line_wrote _ w.in-4.is c.words_in.ensures c.word-kind.ensures (search other_word depth 16 fits 5000)
      | in_default-via-in-5-2+else-eq-13 w ↦ line_wrote _ w.in-5.is c.words_in.ensures c.word-kind.ensures (search other_word depth 16 fits 5000)
      | in_default-via-in-7+else-eq-14 w ↦ line_wrote _ w.in-7.is c.words_in.ensures c.word-kind.ensures (search other_word depth 16 fits 5000)
      | in_default-via-in_default-1 w ↦ line_wrote _ refl c.words_in.ensures c.word-kind.ensures (other_count c.words_in.result _ _ (omega arith) (omega arith) (omega arith) (omega arith) (omega arith) c.bad.ensures)
    ]
