use Rattle.ec_doing.proofs.doing.Doing.send_picked.Goals as goal

pub returns-in-Batch : goal.returns-in-Batch
returns-in-Batch c = rw c.in-Batch.is c.send_batch.ensures
