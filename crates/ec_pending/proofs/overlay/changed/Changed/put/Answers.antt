use Rattle.ec_pending.proofs.OfOverlay.Fine.{fine-put}
use Rattle.ec_pending.proofs.overlay.changed.Changed.put.Goals as goal

pub invariant_of-self : goal.invariant_of-self
invariant_of-self c = fine-put c.insert.result c.args.obj c.args.image c.self.inside.table c.insert.new.self c.insert.ensures.ok c.insert.ensures.err c.requires c.self.invariant
