use Rattle.std.proofs.Common.{[], ◌∷◌, rules}
use Rattle.ec_plain.specs.declared.call.Call.TheVariants.{Sync}
use Rattle.ec_mount.proofs.Passing.{sync_fails, bye_fails, bye_done}
use Rattle.ec_mount.proofs.calls.end.Goals as goal

pub returns-in_err-last : goal.returns-in_err-last
returns-in_err-last g c =
    let fails = sync_fails c.args.clerk.now.lock c.args.pass.now c.call_op.new.pass c.args.pass.now.number (Sync ∷ []) c.in_err-last.field-0.0 c.call_op.ensures.turned c.in_err-last.ensures.called in
    search (rules, fails)

pub returns-in-Err : goal.returns-in-Err
returns-in-Err g c =
    let fails = bye_fails c.args.clerk.now.lock c.args.pass.now c.call_op.new.pass c.bye.new.pass c.call_op.ensures.turned c.bye.ensures.turned c.call_op.new.pass.number c.in-Err.fault c.in-Err.ensures.worked in
    search (rules, fails)

pub returns-in-Ok : goal.returns-in-Ok
returns-in-Ok g c =
    bye_done c.args.clerk.now.lock c.args.pass.now c.call_op.new.pass c.bye.new.pass c.call_op.ensures.turned c.bye.ensures.turned c.in_ok-last.last (tt {0}) c.in_ok-last.ensures.called c.in-Ok.ensures.worked c.in-Ok.ensures.goodbye
