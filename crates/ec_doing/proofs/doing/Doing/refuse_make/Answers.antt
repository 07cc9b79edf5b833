use Rattle.ec_doing.proofs.doing.Doing.refuse_make.Goals as goal

pub returns : goal.returns
returns c = rw c.use_all.ensures at c.emit.ensures
