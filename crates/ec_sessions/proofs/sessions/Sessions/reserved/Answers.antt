use Rattle.ec_sessions.proofs.Tables.{reserved_fits}
use Rattle.ec_sessions.proofs.sessions.Sessions.reserved.Goals as goal

pub count_reserved-requires : goal.count_reserved-requires
count_reserved-requires c = rw c.deref.ensures.value (reserved_fits c.self.inside.slots.items c.self.invariant)
