use Rattle.ec_lease.proofs.Queued.{next_not, next_on}
use Rattle.ec_lease.proofs.world.LeaseWorld.begin_next.Goals as goal

pub returns-in-Ok-clause-ok : goal.returns-in-Ok-clause-ok
returns-in-Ok-clause-ok c =
    next_on c.begin_call.result c.args.clerk c.args.begun (c.in-Ok.line, c.in-Ok.call) c.args.self.now c.begin_call.new.self c.in-Ok.ensures c.requires.free c.begin_call.ensures.book c.begin_call.ensures.ok

pub returns-in-Ok-clause-err : goal.returns-in-Ok-clause-err
returns-in-Ok-clause-err c =
    next_not c.begin_call.result c.args.clerk c.args.begun (c.in-Ok.line, c.in-Ok.call) c.args.self.now c.begin_call.new.self c.in-Ok.ensures c.requires.free c.begin_call.ensures.err
