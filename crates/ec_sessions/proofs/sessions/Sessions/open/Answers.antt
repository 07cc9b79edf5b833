use Rattle.std.proofs.Common.{ap, arith}
use Rattle.ec_sessions.proofs.Tables.{opened_keeps}
use Rattle.ec_sessions.proofs.sessions.Sessions.open.Goals as goal

pub invariant_of-self : goal.invariant_of-self
invariant_of-self c =
    opened_keeps c.get.result c.new_slot.result c.self.inside.slots.items c.self.invariant (omega (arith, c.get.ensures.below)) (ap (λ s. s.unspent) c.new_slot.ensures)
