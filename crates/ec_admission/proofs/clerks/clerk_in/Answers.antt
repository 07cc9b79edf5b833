use Rattle.ec_admission.proofs.Slots.{no_clerk}
use Rattle.ec_admission.proofs.clerks.clerk_in.Goals as goal

pub unreachable-requires : goal.unreachable-requires
unreachable-requires c = no_clerk c.args.sessions.now c.args.session c.clerks.number c.read_slots.ensures c.clerks-test.false c.clerks.invariant.1 c.requires
