-- `hexadecimal::read` meets its contract, by its tests in their order. Assumes nothing.
use mathlib.Core.Path.{sym, ◌∙◌}
use native.Mathlib.Omega.{arith}
use borrow.Author.Rules.{rules}
use Rattle.hexadecimal.specs.Laws.{word_refused, word_read, odd_unreadable, long_unreadable, other_unreadable, pairs_readable}
use Rattle.hexadecimal.proofs.read.Goals as goal
use Rattle.hexadecimal.proofs.read.Goals.{then-word-ne0-via-then-word-ne0, then-word-ne0-via-else-word-ne0+then-out-size, then-word-ne0-via-else-word-ne0+else-out-size+then-not-are_digits}

pub returns-then-word-ne0 : goal.returns-then-word-ne0
returns-then-word-ne0 c =
    let all = word_refused _ _ (elim c.then-word-ne0.branch [
      | then-word-ne0-via-then-word-ne0 w ↦ odd_unreadable c.args.word.now c.args.out.now (λ e. omega arith)
      | then-word-ne0-via-else-word-ne0+then-out-size w ↦ long_unreadable c.args.word.now c.args.out.now (search rules)
      | then-word-ne0-via-else-word-ne0+else-out-size+then-not-are_digits w ↦ other_unreadable c.args.word.now c.args.out.now (sym w.are_digits.ensures ∙ w.if-not-are_digits.true)
    ]) in record { count = all.0; bytes = all.1 }

pub read_pairs-requires : goal.read_pairs-requires
read_pairs-requires c = (sym c.are_digits.ensures ∙ c.if-not-are_digits.false, search rules)

pub returns : goal.returns
returns c =
    let all = sym c.are_digits.ensures ∙ c.if-not-are_digits.false in
    let done = word_read _ _ (pairs_readable c.args.word.now c.args.out.now (omega arith) (search rules) all) in
    record { count = done.0; bytes = c.read_pairs.ensures ∙ done.1 }
