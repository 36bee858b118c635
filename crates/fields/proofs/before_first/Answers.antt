-- `fields::before_first` meets its contract: it is the first place, or the length. Assumes nothing.
use mathlib.Core.Path.{◌≡◌, ◌∙◌}
use borrow.Author.Rules.{rules}
use borrow.Author.Tests.{tests}
use Rattle.std.specs.Prelude.{position}
use Rattle.std.proofs.lemmas.Iterator.{YieldsList-from_slice}
use Rattle.std.proofs.lemmas.Iterator.Search.{position_from_yields_List}
use Rattle.paging.specs.Sets.{◌=?◌}
use Rattle.fields.proofs.Steps.{before_is}
use Rattle.fields.proofs.before_first.Goals as goal

pub returns-clause-place : goal.returns-clause-place
returns-clause-place c =
    let found : c.position.result ≡ position (λ d. d =? c.args.separator) c.args.line.now =
    position_from_yields_List (λ d. d =? c.args.separator) _ _ _ c.position.ensures.ran (YieldsList-from_slice c.args.line.now cc) (λ x b q k. search (rules, tests)) in
    c.unwrap_or.ensures ∙ rw found (before_is c.args.separator c.args.line.now)
