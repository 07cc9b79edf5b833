use Rattle.ec_mount.specs.Run.{NetSeen}
use Rattle.ec_mount_table.proofs.Partings.{ended_by}
use Rattle.ec_mount_table.proofs.ending.end_one.Goals as goal

pub returns-clause-ended : goal.returns-clause-ended
returns-clause-ended g c =
    let lock = c.args.clerk.lock in
    let left = c.left-link.result in
    let before : NetSeen = record { faults = g.N.Net.faults c.args.net.now; bad = g.N.Net.bad c.args.net.now; ended = g.N.Net.ended c.args.net.now } in
    let after : NetSeen = record { faults = g.N.Net.faults c.back-back.new.self; bad = g.N.Net.bad c.back-back.new.self; ended = g.N.Net.ended c.back-back.new.self } in
    ended_by g.N.Link.Link.faults g.N.Link.Link.closes g.N.Link.Link.given g.N.Link.Link.got lock c.args.pass c.part_with-fault.new.pass c.close-whole.new.pass c.args.is_done c.part_with-fault.result c.part_with-fault.ensures c.close-whole.ensures.later c.close-whole.ensures.own
    c.close-whole.result.clerk c.in-Some.clerk c.in-Some.is c.close-whole.result.link left before after c.close-whole.result.told.items c.close-whole.result.boot c.requires.alone c.close-whole.ensures.links c.close-whole.ensures.alone c.close-whole.ensures.said c.close-whole.ensures.told c.close-whole.ensures.boot
    c.left-link.ensures.counts c.left-link.ensures.bodies c.back-back.result c.in-Ok.is c.back-back.ensures.faults c.back-back.ensures.bad c.back-back.ensures.ended
