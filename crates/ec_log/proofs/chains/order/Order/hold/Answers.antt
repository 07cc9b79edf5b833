use Rattle.std.proofs.Common.{◌≡◌, true, sym, subst}
use Rattle.ec_log.specs.OfChains.Held.{is_behind}
use Rattle.ec_log.proofs.OfChains.Leaving.{order-pushed, order-raised}
use Rattle.ec_log.proofs.chains.order.Order.hold.Goals as goal

pub invariant_of-self : goal.invariant_of-self
invariant_of-self c =
    order-raised c.self.inside.held c.self.inside.shared c.prepare-ready.new.shared c.self.inside.chains c.prepare-ready.new.chains c.args.op c.self.invariant (subst (λ l. is_behind c.args.op l ≡ true) (sym c.self.view_is) c.requires) c.prepare-ready.ensures.raised c.prepare-ready.ensures.old

pub invariant_of-self-2 : goal.invariant_of-self-2
invariant_of-self-2 c =
    order-pushed c.self.inside.held c.self.inside.shared c.prepare-ready.new.shared c.self.inside.chains c.prepare-ready.new.chains c.args.op c.self.invariant (subst (λ l. is_behind c.args.op l ≡ true) (sym c.self.view_is) c.requires)
    c.push.result c.push.new.self c.args.update c.push.ensures.ok c.push.ensures.err c.prepare-ready.ensures.raised c.in_default.ensures.noted c.prepare-ready.ensures.old c.in_default.ensures.new
