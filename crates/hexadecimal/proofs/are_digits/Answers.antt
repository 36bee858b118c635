-- `hexadecimal::are_digits` meets its contract: each digit has a value. Assumes nothing.
use mathlib.Core.Path.{◌∙◌}
use borrow.Author.Rules.{rules}
use Rattle.std.specs.Prelude.{is_some}
use Rattle.std.proofs.lemmas.Iterator.Search.{all_from_yields_List}
use Rattle.std.proofs.lemmas.Iterator.{YieldsList-from_slice}
use Rattle.hexadecimal.specs.Hex.{digit_value}
use Rattle.hexadecimal.proofs.Steps.{each_digit}
use Rattle.hexadecimal.proofs.are_digits.Goals as goal

pub returns : goal.returns
returns c =
    all_from_yields_List (λ d. is_some (digit_value d)) _ _ _ c.all.ensures.ran (YieldsList-from_slice c.args.word.now cc) (λ x b q k. search rules)
    ∙ each_digit c.args.word.now
