use Rattle.std.proofs.Common.{None}
use Rattle.std.specs.String.{string_bytes}
use Rattle.ec_lock.specs.declared.types.Pass.{Pass}
use Rattle.ec_lock.specs.declared.types.TracedLock.{TracedLock}
use Rattle.ec_clerknode.specs.declared.shared.SharedClerk.{SharedClerk}
use Rattle.ec_clerknode.specs.declared.state.Node.{Node}
use Rattle.ec_clerknode.specs.declared.step.Step.{Step}
use Rattle.ec_mount.specs.Run.{NetSeen}
use Rattle.ec_mounts.specs.declared.part.Part.{Part}
use Rattle.ec_mount_table.proofs.Seating.{fails_table, parts_many, reached_table}
use Rattle.ec_mount_table.proofs.Working.{concluded}
use Rattle.ec_mount_table.proofs.work.work.Goals as goal

pub returns-in_default-clause-works : goal.returns-in_default-clause-works
returns-in_default-clause-works g c =
    let before : NetSeen = record { faults = g.N.Net.faults c.args.net.now; bad = g.N.Net.bad c.args.net.now; ended = g.N.Net.ended c.args.net.now } in
    let after : NetSeen = record { faults = g.N.Net.faults c.seat_all.new.net; bad = g.N.Net.bad c.seat_all.new.net; ended = g.N.Net.ended c.seat_all.new.net } in
    concluded c.args.volumes.now.clerk c.args.volumes.now.boot c.args.table.now c.args.rows.now before after c.none.result.mets.items c.none.result.replies.items c.none.result.last None c.conclude.result c.conclude.ensures tt

pub work_over-requires-clause-many : goal.work_over-requires-clause-many
work_over-requires-clause-many g c κs within =
    let lock_of : SharedClerk g.row.N-Link.Denot g.row.N-Link-Bell.Denot → TracedLock (Node g.row.N-Link.Denot) Step = λ k. k.lock in
    let pass_of : Part g.row.N-Link.Denot g.row.N-Link-Bell.Denot → Pass (Node g.row.N-Link.Denot) Step = λ p. p.pass in
    let before : NetSeen = record { faults = g.N.Net.faults c.args.net.now; bad = g.N.Net.bad c.args.net.now; ended = g.N.Net.ended c.args.net.now } in
    let now : NetSeen = record { faults = g.N.Net.faults c.seat_all.new.net; bad = g.N.Net.bad c.seat_all.new.net; ended = g.N.Net.ended c.seat_all.new.net } in
    let volumes = c.args.volumes.now in
    let seated = c.in-Some.seated in
    parts_many lock_of g.N.Link.Link.given g.N.Link.Link.got volumes.clerk volumes.boot volumes.words.now string_bytes before now seated.clerks.items c.args.table.now c.requires.table seated.end c.in-Some.ensures.reached pass_of seated.parts.items c.in-Some.ensures.seated c.in-Ok.is

pub returns-in-Ok-clause-works : goal.returns-in-Ok-clause-works
returns-in-Ok-clause-works g c =
    let lock_of : SharedClerk g.row.N-Link.Denot g.row.N-Link-Bell.Denot → TracedLock (Node g.row.N-Link.Denot) Step = λ k. k.lock in
    let before : NetSeen = record { faults = g.N.Net.faults c.args.net.now; bad = g.N.Net.bad c.args.net.now; ended = g.N.Net.ended c.args.net.now } in
    let now : NetSeen = record { faults = g.N.Net.faults c.seat_all.new.net; bad = g.N.Net.bad c.seat_all.new.net; ended = g.N.Net.ended c.seat_all.new.net } in
    let volumes = c.args.volumes.now in
    let seated = c.in-Some.seated in
    c.work_over.ensures.works volumes.clerk volumes.boot before
    (reached_table lock_of g.N.Link.Link.given g.N.Link.Link.got volumes.clerk volumes.boot volumes.words.now string_bytes before now seated.clerks.items c.args.table.now c.requires.table seated.end c.in-Some.ensures.reached c.in-Ok.is)

pub returns-in-Err-clause-works : goal.returns-in-Err-clause-works
returns-in-Err-clause-works g c =
    let lock_of : SharedClerk g.row.N-Link.Denot g.row.N-Link-Bell.Denot → TracedLock (Node g.row.N-Link.Denot) Step = λ k. k.lock in
    let before : NetSeen = record { faults = g.N.Net.faults c.args.net.now; bad = g.N.Net.bad c.args.net.now; ended = g.N.Net.ended c.args.net.now } in
    let now : NetSeen = record { faults = g.N.Net.faults c.seat_all.new.net; bad = g.N.Net.bad c.seat_all.new.net; ended = g.N.Net.ended c.seat_all.new.net } in
    let volumes = c.args.volumes.now in
    let seated = c.in-Some.seated in
    let few = fails_table lock_of g.N.Link.Link.given g.N.Link.Link.got volumes.clerk volumes.boot volumes.words.now string_bytes before now seated.clerks.items c.args.table.now c.requires.table seated.end c.in-Some.ensures.reached c.in-Err.fault c.in-Err.is in
    c.end_few.ensures.works volumes.clerk volumes.boot before c.args.table.now c.args.rows.now few.0 few.1
