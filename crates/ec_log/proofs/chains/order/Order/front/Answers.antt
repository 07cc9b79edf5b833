use Rattle.std.proofs.Common.{ap, sym, subst, ◌∙◌, take}
use Rattle.std.specs.Prelude.{T}
use Rattle.std.specs.Ordering.{nat_cmp}
use Rattle.std.specs.FinMap.{is_sorted}
use Rattle.std.proofs.lemmas.Result.{IfOk-weaker}
use Rattle.ec_base.specs.Tables.{keys}
use Rattle.ec_log.specs.OfChains.Front.{IsFront}
use Rattle.ec_log.specs.declared.chains.closure.Ask.TheVariants.{Op}
use Rattle.ec_log.proofs.OfChains.Emptied.{ok-always}
use Rattle.ec_log.proofs.OfChains.Firsts.{front-whole, front-all}
use Rattle.ec_log.proofs.chains.order.Order.front.Goals as goal

pub returns-in-Object-clause-sorted : goal.returns-in-Object-clause-sorted
returns-in-Object-clause-sorted c = ok-always c.front_on.result (subst (λ l. T (is_sorted nat_cmp l)) c.self.view_is c.slots-held.ensures.sorted)

pub returns-in-Op-clause-front : goal.returns-in-Op-clause-front
returns-in-Op-clause-front c =
    IfOk-weaker c.closure_if_held.result _ _ (λ ops is.
    subst (λ a. IsFront a c.args.self.now c.args.most ops.items) (sym c.in-Op.is) (front-whole (Op c.in-Op.op) c.args.self.now c.args.most ops.items (subst (λ l. T (is_sorted nat_cmp l)) c.self.view_is c.slots-held.ensures.sorted) is))
    c.closure_if_held.ensures

pub returns-in-Op-clause-sorted : goal.returns-in-Op-clause-sorted
returns-in-Op-clause-sorted c = ok-always c.closure_if_held.result (subst (λ l. T (is_sorted nat_cmp l)) c.self.view_is c.slots-held.ensures.sorted)

pub returns-in-All-clause-front : goal.returns-in-All-clause-front
returns-in-All-clause-front c =
    IfOk-weaker c.first_numbers.result _ _ (λ ops is.
    subst (λ a. IsFront a c.args.self.now c.args.most ops.items) (sym c.in-All.is)
    (front-all c.args.self.now c.args.most ops.items (subst (λ l. T (is_sorted nat_cmp l)) c.self.view_is c.slots-held.ensures.sorted) (is ∙ ap (λ l. take c.args.most (keys l)) (c.slots-held.ensures.value ∙ c.self.view_is))))
    c.first_numbers.ensures

pub returns-in-All-clause-sorted : goal.returns-in-All-clause-sorted
returns-in-All-clause-sorted c = ok-always c.first_numbers.result (subst (λ l. T (is_sorted nat_cmp l)) c.self.view_is c.slots-held.ensures.sorted)
