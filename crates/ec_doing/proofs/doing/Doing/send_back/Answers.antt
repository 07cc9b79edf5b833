use Rattle.ec_doing.proofs.doing.Doing.send_back.Goals as goal

pub returns : goal.returns
returns c = rw c.session.ensures at c.send.ensures
