use Rattle.ec_stands.proofs.OfTable.Written.{slots_fit}
use Rattle.ec_stands.specs.OfTable.Codes.{slots_field}
use Rattle.ec_stands.proofs.table.writing.put_slots.Goals as goal

pub returns-clause-written : goal.returns-clause-written
unfolding slots_field
returns-clause-written c = (c.in_ok-put_each_slot.ensures.spelled, slots_fit c.args.sessions.now c.in_ok-put_each_slot.ensures.sixteen c.in_ok-put_each_slot.ensures.fit)
