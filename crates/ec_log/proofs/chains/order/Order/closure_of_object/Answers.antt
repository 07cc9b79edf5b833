use Rattle.std.proofs.Common.{ap, sym, subst, ◌∙◌}
use Rattle.std.specs.Prelude.{T}
use Rattle.std.specs.Ordering.{nat_cmp}
use Rattle.std.specs.FinMap.{is_sorted}
use Rattle.std.proofs.lemmas.Result.{IfOk-weaker}
use Rattle.ec_base.specs.Tables.{keys}
use Rattle.ec_volume.specs.Update.{has_operand}
use Rattle.ec_log.specs.OfChains.Chains.{AreLinked}
use Rattle.ec_log.specs.OfChains.Walk.{walk}
use Rattle.ec_log.specs.OfChains.ClosureLaws.{walk-passing}
use Rattle.ec_log.proofs.OfChains.Live.{linked-placed}
use Rattle.ec_log.proofs.chains.order.Order.closure_of_object.Goals as goal

pub closure-requires-clause-linked : goal.closure-requires-clause-linked
closure-requires-clause-linked c = linked-placed c.self.inside.chains c.slots.result.now (subst (AreLinked c.self.inside.chains) (sym c.slots.ensures.value) c.self.invariant.1)

pub returns : goal.returns
returns c =
    IfOk-weaker c.closure.result _ _ (λ ops is.
    is
    ∙ ap (λ l. keys (walk (λ x. has_operand c.args.obj x.1) l)) (c.slots.ensures.value ∙ c.self.view_is)
    ∙ ap keys (walk-passing (λ x. has_operand c.args.obj x.1) c.args.self.now (subst (λ l. T (is_sorted nat_cmp l)) c.self.view_is c.slots.ensures.sorted)))
    c.closure.ensures
