use Rattle.std.proofs.Common.{Err, ap}
use Rattle.std.proofs.lemmas.Result.{err_from_is_err_and}
use Rattle.ec_protocol.specs.Clerk as machine
use Rattle.ec_clerk.proofs.OfRunning.Taking.{goes_back, stays_at}
use Rattle.ec_clerk.proofs.running.running.take.Goals as goal

pub returns-clause-ok : goal.returns-clause-ok
returns-clause-ok c =
    goes_back (machine.take c.args.msg) c.args.id c.args.clerks.now c.take_out.new.clerks c.insert.new.self c.in-Some.clerk c.take-done.new.self c.in_ok-done.field-0.items
    c.in-Some.ensures c.in_ok-insert.ensures.ok c.in_ok-done.ensures.ok

pub returns-in_err-done-clause-err : goal.returns-in_err-done-clause-err
returns-in_err-done-clause-err c =
    let p = err_from_is_err_and c.from_residual-in_err-done.result c.from_residual-in_err-done.ensures.1 in
    rw (p.1, p.2) (stays_at (machine.take c.args.msg) c.args.id c.args.clerks.now c.take_out.new.clerks c.insert.new.self c.in-Some.clerk c.take-done.new.self c.in_err-done.field-0.0
    c.in-Some.ensures c.in_ok-insert.ensures.ok (λ n e. c.in_err-done.ensures.spent n (ap Err e)) (λ n e. c.in_err-done.ensures.kept n (ap Err e)) (λ e. c.in_err-done.ensures.no_such (ap Err e)))
