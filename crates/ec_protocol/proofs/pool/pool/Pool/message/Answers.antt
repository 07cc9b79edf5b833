use Rattle.ec_protocol.proofs.OfPool.Laws.{sound_copied}
use Rattle.ec_protocol.proofs.pool.pool.Pool.message.Goals as goal

pub returns-clause-sound : goal.returns-clause-sound
returns-clause-sound c = sound_copied c.get.result c.self.inside.kept.entries c.args.number c.get.ensures.value c.self.invariant.sound
