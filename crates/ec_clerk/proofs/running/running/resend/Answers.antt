use Rattle.ec_protocol.specs.Clerk as machine
use Rattle.ec_clerk.proofs.OfRunning.Taking.{goes_back}
use Rattle.ec_clerk.proofs.running.running.resend.Goals as goal

pub returns-clause-ok : goal.returns-clause-ok
returns-clause-ok c =
    goes_back machine.resend c.args.id c.args.clerks.now c.take_out.new.clerks c.insert.new.self c.in-Some.clerk c.resend-done.new.self c.in_ok-done.field-0.items
    c.in-Some.ensures c.in_ok-insert.ensures.ok c.in_ok-done.ensures.ok
