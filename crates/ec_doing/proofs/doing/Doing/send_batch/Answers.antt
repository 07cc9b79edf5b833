use Rattle.ec_doing.proofs.doing.Doing.send_batch.Goals as goal

pub returns : goal.returns
returns c = rw c.in_ok-ops.ensures at (rw c.session.ensures at c.send.ensures)
