use Rattle.ec_coherence.proofs.ForBatches.Flushed.{every-flush-steps}
use Rattle.ec_coherence.proofs.ForBatches.Records.{batches-keep, ends-keep}
use Rattle.ec_coherence.proofs.batches.records_keep_logs_and_images.Goals as goal

pub returns-clause-steps : goal.returns-clause-steps
returns-clause-steps c g a = every-flush-steps g a.sessions a.tokens a.logs a.images

pub returns-clause-batches : goal.returns-clause-batches
returns-clause-batches c = batches-keep

pub returns-clause-ends : goal.returns-clause-ends
returns-clause-ends c = ends-keep
