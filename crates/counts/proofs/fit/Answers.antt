-- `counts::fit` meets its contract: each early answer breaks a clause, and the last test decides. Assumes nothing.
use native.Mathlib.Omega.{arith}
use borrow.Author.Rules.{rules}
use Rattle.counts.specs.Laws.{unfit, fit_last}
use Rattle.counts.proofs.fit.Goals as goal

pub returns-then-most-counts : goal.returns-then-most-counts
returns-then-most-counts c = unfit _ (λ w. omega (arith, w.few))

pub returns-then-counts : goal.returns-then-counts
returns-then-counts c = unfit _ (λ w. omega (arith, w.sum))

pub returns-then-counts-2 : goal.returns-then-counts-2
returns-then-counts-2 c = unfit _ (λ w. omega (arith, w.sum))

pub returns : goal.returns
returns c = fit_last _ (search rules) (search rules)
