use Rattle.ec_mount_table.proofs.Partings.{bye_err, bye_not, bye_ok}
use Rattle.ec_mount_table.proofs.ending.part_with.Goals as goal

pub returns-then-not-is_done : goal.returns-then-not-is_done
returns-then-not-is_done g c = bye_not c.args.clerk.now.lock c.args.pass.now c.args.pass.now c.args.is_done c.requires c.if-not-is_done.true

pub returns-in-Ok : goal.returns-in-Ok
returns-in-Ok g c = bye_ok c.args.clerk.now.lock c.args.pass.now c.bye.new.pass c.args.is_done c.bye.ensures.turned c.in-Ok.ensures.worked c.in-Ok.ensures.goodbye

pub returns-in-Err : goal.returns-in-Err
returns-in-Err g c = bye_err c.args.clerk.now.lock c.args.pass.now c.bye.new.pass c.args.is_done c.in-Err.fault c.if-not-is_done.false c.bye.ensures.turned c.in-Err.ensures.worked
