use Rattle.std.proofs.Common.{◌∙◌, ◌≤◌, ap, sym, subst}
use Rattle.std.proofs.lemmas.Result.{IfOk-weaker}
use Rattle.ec_pending.specs.declared.asked.Asked.TheVariants as asks
use Rattle.ec_pending.specs.Pending.{is_asked, numbers_in, picked_out}
use Rattle.ec_pending.proofs.Holding.{issues-of}
use Rattle.ec_pending.proofs.Leaving.{taken-none, closure-taken, sorted-view}
use Rattle.ec_pending.proofs.pending.Pending.covered.Goals as goal

pub returns-in-Nothing-clause-ops : goal.returns-in-Nothing-clause-ops
returns-in-Nothing-clause-ops c = c.new.ensures.items ∙ sym (ap (λ a. numbers_in (picked_out (is_asked a) (issues-of c.args.self.now))) c.in-Nothing.is ∙ taken-none (issues-of c.args.self.now))

pub returns-in-Nothing-clause-sorted : goal.returns-in-Nothing-clause-sorted
returns-in-Nothing-clause-sorted c = sorted-view c.self.inside.count c.self.inside.places c.self.inside.order c.args.self.now c.self.view_is c.slots-held.ensures.sorted

pub returns-in-On-clause-ops : goal.returns-in-On-clause-ops
returns-in-On-clause-ops c =
    IfOk-weaker c.closure_of_object.result _ _ (λ ops is.
    is
    ∙ sym (closure-taken c.self.inside.places c.self.inside.lasts c.in-On.obj c.in-On.begun c.self.inside.order c.self.invariant.2 (subst (λ n. n ≤ c.in-On.begun) c.last_on.ensures c.if-last_on-begun.true) c.slots-held.ensures.sorted)
    ∙ ap (λ v. numbers_in (picked_out (is_asked (asks.On c.in-On.obj c.in-On.begun)) (issues-of v))) c.self.view_is
    ∙ ap (λ a. numbers_in (picked_out (is_asked a) (issues-of c.args.self.now))) (sym c.in-On.is))
    c.closure_of_object.ensures

pub returns-in-On-clause-sorted : goal.returns-in-On-clause-sorted
returns-in-On-clause-sorted c = sorted-view c.self.inside.count c.self.inside.places c.self.inside.order c.args.self.now c.self.view_is c.slots-held.ensures.sorted

pub returns-in_default-clause-sorted : goal.returns-in_default-clause-sorted
returns-in_default-clause-sorted c = sorted-view c.self.inside.count c.self.inside.places c.self.inside.order c.args.self.now c.self.view_is c.slots-held.ensures.sorted
