use Rattle.std.proofs.Common.{arith, refl, sym, subst}
use Rattle.ec_half.specs.Headers.{IsFoundOf}
use Rattle.ec_half.proofs.Joins.{number-empty, number-half}
use Rattle.ec_half.proofs.opening.begun.Goals as goal

pub returns-in-Half-clause-number : goal.returns-in-Half-clause-number
returns-in-Half-clause-number g c told is =
    let known = subst (λ f. IsFoundOf f (g.D.Disk.view c.args.disk.now).gives) c.in-Half.is is in
    sym (number-half (g.D.Disk.view c.args.disk.now).gives c.in-Half.generation known.0 known.1)

pub returns-in-Half-clause-header : goal.returns-in-Half-clause-header
returns-in-Half-clause-header g c told is =
    let known = subst (λ f. IsFoundOf f (g.D.Disk.view c.args.disk.now).gives) c.in-Half.is is in
    omega (arith, known.0)

pub returns-in-Half-clause-content : goal.returns-in-Half-clause-content
returns-in-Half-clause-content g c told is = refl

pub returns-in-Done-clause-number : goal.returns-in-Done-clause-number
returns-in-Done-clause-number g c told is =
    sym (number-empty (g.D.Disk.view c.args.disk.now).gives (subst (λ f. IsFoundOf f (g.D.Disk.view c.args.disk.now).gives) c.in-Empty.is is))

pub returns-in-Done-clause-header : goal.returns-in-Done-clause-header
returns-in-Done-clause-header g c told is = c.begin.ensures.header c.in-Done.is told

pub returns-in-Done-clause-content : goal.returns-in-Done-clause-content
returns-in-Done-clause-content g c told is =
    c.begin.ensures.content c.in-Done.is told (subst (λ f. IsFoundOf f (g.D.Disk.view c.args.disk.now).gives) c.in-Empty.is is)
