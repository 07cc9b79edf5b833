use Rattle.std.proofs.Common.{refl}
use Rattle.ec_mount.specs.Run.{NetSeen}
use Rattle.ec_mount.specs.Work as work
use Rattle.ec_mount.proofs.Running.{works}
use Rattle.ec_mount.proofs.work.work.Goals as goal

pub returns-clause-works : goal.returns-clause-works
returns-clause-works g c =
    let before : NetSeen = record { faults = g.N.Net.faults c.args.net.now; bad = g.N.Net.bad c.args.net.now; ended = g.N.Net.ended c.args.net.now } in
    let called : NetSeen = record { faults = g.N.Net.faults c.call.new.self; bad = g.N.Net.bad c.call.new.self; ended = g.N.Net.ended c.call.new.self } in
    let after : NetSeen = record { faults = g.N.Net.faults c.work_over.new.net; bad = g.N.Net.bad c.work_over.new.net; ended = g.N.Net.ended c.work_over.new.net } in
    works c.args.who.now.clerk c.args.boot c.in-Ok.made.0 c.in-Ok.made.1.items c.args.lanes.items before called after c.in-Ok.ensures.ok c.in-Ok-call.ensures.same (work.given_of c.work_over.result) c.work_over.ensures.works
