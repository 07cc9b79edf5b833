use Rattle.ec_durable.proofs.OfWellFormed.Adding.{sessions_more}
use Rattle.ec_durable.proofs.well_formed.lists.sessions_of.Goals as goal

pub slots-preserved : goal.slots-preserved
slots-preserved c = sessions_more c.args.slots.now c.slots.slot-index c.slot-item.result c.slots.sessions.items c.push_session.new.sessions.items c.slots-test.true c.slot-item.is c.slots.invariant c.in_ok-push_session.ensures
