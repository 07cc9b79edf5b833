use Rattle.ec_durable.proofs.StepLemmas.{sound_at}
use Rattle.ec_durable.proofs.state.Durable.operations.Goals as goal

pub carry_out-requires : goal.carry_out-requires
carry_out-requires c = sound_at c.args.ops.now c.loop-op.op-index c.loop-op-item.result c.requires c.loop-op-test.true c.loop-op-item.is
