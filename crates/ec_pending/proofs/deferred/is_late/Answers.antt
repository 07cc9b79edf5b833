use Rattle.std.proofs.Common.{◌≡◌, ◌<◌, ◌-◌, ◌==◌, length, sym, ap, ◌∙◌, arith, true}
use Rattle.std.specs.Prelude.{eqb}
use Rattle.std.proofs.lemmas.Bool.Decides.{nat_tests}
use Rattle.ec_pending.specs.Deferred.{is_issue}
use Rattle.ec_pending.proofs.Late.{any-behind}
use Rattle.ec_pending.proofs.deferred.is_late.Goals as goal

pub returns-in-Issue : goal.returns-in-Issue
returns-in-Issue c e =
    let given : eqb c.in-Issue.number c.args.op ≡ true = sym c.eq.ensures ∙ e in
    let same : (c.args.op == c.in-Issue.number) ≡ true = grind (arith, nat_tests, given) in
    let ns = c.args.notes.now in
    let within : length ns - 1 - (c.args.count - c.op.inside.0) < length ns = omega (arith, c.if-count-op-2.false) in
    any-behind (is_issue c.args.op) ns c.args.late (length ns - 1 - (c.args.count - c.op.inside.0)) _ c.if-at-late.false within (ap (is_issue c.args.op) (sym c.index-notes-at.is ∙ c.in-Issue.is) ∙ same)
