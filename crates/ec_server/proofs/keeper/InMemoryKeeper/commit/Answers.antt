use Rattle.ec_durable.specs.CodeLaws.{sound_steps}
use Rattle.ec_server.specs.KeptLaws.{stays_in_order}
use Rattle.ec_server.proofs.keeper.InMemoryKeeper.commit.Goals as goal

pub step-requires-clause-sound : goal.step-requires-clause-sound
step-requires-clause-sound c = sound_steps c.args.change.now c.requires.sound

pub invariant_of-self : goal.invariant_of-self
invariant_of-self c =
    stays_in_order c.step.result c.args.change.now c.self.inside.durable c.step.new.self c.step.ensures.ok c.step.ensures.err
    (c.records_keep_states_in_order.ensures.step c.args.change.now c.self.inside.durable c.step.new.self c.self.invariant.0 (sound_steps c.args.change.now c.requires.sound)) c.self.invariant.0 c.self.invariant.1
