use Rattle.ec_sessions.proofs.Tables.{ids_before}
use Rattle.ec_sessions.proofs.sessions.read_ids.Goals as goal

pub loop-slot-preserved : goal.loop-slot-preserved
loop-slot-preserved c = λ h. c.loop-slot.invariant (ids_before c.args.slots.now c.loop-slot.slot-index c.slot-item.result c.loop-slot-test.true c.slot-item.is c.read_ids.ensures h)
