use Rattle.std.proofs.Common.{◌<◌, ◌∙◌, ap, arith}
use Rattle.ec_sessions.specs.Slots.{batch_marked}
use Rattle.ec_sessions.proofs.Tables.{marked_keeps, slot_found}
use Rattle.ec_sessions.proofs.sessions.Sessions.mark.Goals as goal

pub invariant_of-self : goal.invariant_of-self
invariant_of-self c =
    let within : c.get.result < 16 = omega (arith, c.get.ensures.below) in
    let found = slot_found c.self.inside.slots.items c.get.result c.index_mut.result.now c.self.invariant within c.index_mut.ensures.value in
    marked_keeps c.get.result c.args.n c.mark.new.slot c.self.inside.slots.items c.self.invariant within (c.mark.ensures.slot ∙ ap (batch_marked c.args.n) found)
