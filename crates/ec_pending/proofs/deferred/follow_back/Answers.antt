use Rattle.std.proofs.Common.{◌∙◌, ◌++◌, ◌≤◌, sym, ap, subst}
use Rattle.std.specs.Prelude.{option_to_list}
use Rattle.ec_pending.specs.Deferred.{above_next, AreAbove}
use Rattle.ec_pending.proofs.Deferring.{last-first, up-to}
use Rattle.ec_pending.proofs.deferred.follow_back.Goals as goal

pub returns-in_err-follow-clause-count : goal.returns-in_err-follow-clause-count
returns-in_err-follow-clause-count c =
    let left = c.pop.new.self.items in
    let first = last-first c.each.left.items left c.in-Some.note (c.pop.ensures.items ∙ ap (λ r. left ++ option_to_list r) c.in-Some.is) in
    let above = subst (AreAbove c.args.count c.each.pending.0) first c.each.invariant.0 in
    subst (λ n. n ≤ c.args.count) (sym c.follow.ensures.count) (up-to c.args.count (above_next c.each.pending.0 c.in-Some.note) _ above.1)
