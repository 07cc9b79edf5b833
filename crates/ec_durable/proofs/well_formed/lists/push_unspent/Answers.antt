use Rattle.ec_durable.proofs.OfWellFormed.Adding.{unspent_more}
use Rattle.ec_durable.proofs.well_formed.lists.push_unspent.Goals as goal

pub slots-preserved : goal.slots-preserved
slots-preserved c = unspent_more c.args.slots.now c.slots.slot-index c.slot-item.result c.args.ids.now.items c.slots.ids.items c.push_slot.new.ids.items c.slots-test.true c.slot-item.is c.slots.invariant c.in_ok-push_slot.ensures
