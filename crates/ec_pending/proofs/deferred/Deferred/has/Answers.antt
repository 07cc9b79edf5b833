use Rattle.std.proofs.Common.{◌≡◌, ℕ, List, sym, ap, subst, ◌∙◌, rules, true, drop}
use Rattle.std.specs.List.{list_any}
use Rattle.ec_volume.specs.Update.{member}
use Rattle.ec_pending.specs.declared.issue.Issue.{Issue}
use Rattle.ec_pending.specs.Deferred.{is_issue}
use Rattle.ec_pending.specs.Pending.{numbers_in}
use Rattle.ec_pending.proofs.Late.{late-pending}
use Rattle.ec_pending.proofs.deferred.Deferred.has.Goals as goal

pub returns-then-is_late-clause-has : goal.returns-then-is_late-clause-has
returns-then-is_late-clause-has c =
    let d = c.self.inside in
    let same : c.deref.result.now ≡ d.notes.items = search rules in
    let late = subst (λ ns. list_any (is_issue c.args.op) (drop d.late ns) ≡ true) same (c.is_late.ensures c.if-is_late.true) in
    sym (ap (λ (v : ℕ × List Issue). member c.args.op (numbers_in v.1)) (sym c.self.view_is) ∙ late-pending c.args.op d.late d.notes.items d.pending.1 c.self.invariant.1 late)
