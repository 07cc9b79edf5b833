use Rattle.ec_order.specs.OfObjtable.Slots.{held}
use Rattle.ec_pending.proofs.OfOverlay.Fine.{looked-fine}
use Rattle.ec_pending.proofs.overlay.changed.Changed.get.Goals as goal

pub returns-clause-fine : goal.returns-clause-fine
returns-clause-fine c = looked-fine (held c.args.obj c.self.inside.table) c.get.result (c.self.invariant c.args.obj) c.get.ensures
