use Rattle.ec_order.specs.OfObjtable.Slots.{held}
use Rattle.ec_pending.proofs.OfOverlay.Fine.{fine-taken, found-fine}
use Rattle.ec_pending.proofs.overlay.changed.Changed.take.Goals as goal

pub invariant_of-self : goal.invariant_of-self
invariant_of-self c = fine-taken c.replace.result c.args.obj c.self.inside.table c.replace.new.self c.replace.ensures.some c.replace.ensures.none c.self.invariant

pub returns-clause-fine : goal.returns-clause-fine
returns-clause-fine c = found-fine (held c.args.obj c.self.inside.table) c.replace.result (c.self.invariant c.args.obj) c.replace.ensures.value
