-- `certify::tables` meets its contract: a part that fails makes the tables unsound, and where the others hold the certificate
-- decides. Assumes nothing.
use mathlib.Core.Path.{◌≡◌, sym, ◌∙◌}
use mathlib.Core.Bool.{true}
use borrow.Author.Rules.{rules}
use Rattle.certify.specs.Test.{layers_fit}
use Rattle.certify.specs.Tables.{seats_fit}
use Rattle.certify.specs.Laws.{layers_layered, seats_below, certificate_sound}
use Rattle.certify.proofs.Passes.{refused, granted}
use Rattle.certify.proofs.Together.{unsound}
use Rattle.certify.proofs.tables.Goals as goal
use Rattle.certify.proofs.tables.Goals.{After-mark, Then-mark, then-not-layers_fit-via-then-not-layers_fit, then-not-layers_fit-via-else-not-layers_fit+then-not-ends_clear}

pub returns-then-not-layers_fit : goal.returns-then-not-layers_fit
returns-then-not-layers_fit c o w =
    elim c.then-not-layers_fit.branch [ then-not-layers_fit-via-then-not-layers_fit v ↦ unsound _ _ _ _ _ (λ o p. p.layers) (refused _ _ c.layers_fit.ensures v.if-not-layers_fit.true) o | then-not-layers_fit-via-else-not-layers_fit+then-not-ends_clear v ↦ unsound _ _ _ _ _ (λ o p. p.ends) (refused _ _ v.ends_clear.ensures v.if-not-ends_clear.true) o ]

-- the parts that held
fit : (c : After-mark) → (layers_fit c.args.pages c.args.slots c.args.layer.now ≡ true)
fit c = sym (granted _ _ c.layers_fit.ensures c.if-not-layers_fit.false)

seats : (c : Then-mark) → (seats_fit c.args.pages c.args.slots c.args.held.now ≡ true)
seats c = sym (granted _ _ c.mark.ensures.result c.if-mark.true)

pub certificate-requires-clause-bounded : goal.certificate-requires-clause-bounded
certificate-requires-clause-bounded c = (layers_layered _ _ _ (fit (goal.at.certificate-requires-clause-bounded c).After-mark)).bounded

pub certificate-requires-clause-seats : goal.certificate-requires-clause-seats
certificate-requires-clause-seats c = seats_below _ _ _ (seats (goal.at.certificate-requires-clause-seats c).Then-mark)

pub returns-then-mark : goal.returns-then-mark
returns-then-mark c o w =
    let at = goal.at.returns-then-mark c in
    c.certificate.ensures
    ∙ certificate_sound
    _
    _
    o
    _
    _
    _
    (search rules)
    (search rules)
    w
    (fit at.After-mark)
    (seats at.Then-mark)
    (sym (granted _ _ c.ends_clear.ensures c.if-not-ends_clear.false))

pub returns-else-mark : goal.returns-else-mark
returns-else-mark c o w =
    c.if-mark.false ∙ unsound _ _ _ _ _ (λ o p. p.seats) (refused _ _ c.mark.ensures.result c.if-mark.false) o
