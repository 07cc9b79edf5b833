use Rattle.std.proofs.Common.{◌<◌, length, map, arith}
use Rattle.std.proofs.lemmas.List.{length-map}
use Rattle.ec_lock.specs.declared.types.Pass.{Pass}
use Rattle.ec_lock.specs.declared.types.TracedLock.{TracedLock}
use Rattle.ec_clerknode.specs.declared.shared.SharedClerk.{SharedClerk}
use Rattle.ec_clerknode.specs.declared.state.Node.{Node}
use Rattle.ec_clerknode.specs.declared.step.Step.{Step}
use Rattle.ec_clerknode.specs.LaneRuns.{lists_of}
use Rattle.ec_mount.specs.Run.{NetSeen}
use Rattle.ec_mounts.specs.declared.part.Part.{Part}
use Rattle.ec_mount_table.proofs.Working.{concluded_not, if_some, works_not}
use Rattle.ec_mount_table.proofs.work.end_few.Goals as goal

pub returns-clause-works : goal.returns-clause-works
returns-clause-works g c = λ id was before table rows few fails.
    let lock_of : SharedClerk g.row.N-Link.Denot g.row.N-Link-Bell.Denot → TracedLock (Node g.row.N-Link.Denot) Step = λ k. k.lock in
    let pass_of : Part g.row.N-Link.Denot g.row.N-Link-Bell.Denot → Pass (Node g.row.N-Link.Denot) Step = λ p. p.pass in
    let clerks = c.args.clerks.items in
    let locks = map lock_of clerks in
    let passes = map pass_of c.args.parts.items in
    let now : NetSeen = record { faults = g.N.Net.faults c.args.net.now; bad = g.N.Net.bad c.args.net.now; ended = g.N.Net.ended c.args.net.now } in
    let after : NetSeen = record { faults = g.N.Net.faults c.end_all-ends.new.net; bad = g.N.Net.bad c.end_all-ends.new.net; ended = g.N.Net.ended c.end_all-ends.new.net } in
    let less : length locks < length table = omega (arith, few, length-map clerks lock_of) in
    let made = c.none.result in
    concluded_not id was table rows before after made.mets.items made.replies.items made.last c.args.fault c.end_all-ends.result c.conclude.result c.conclude.ensures c.none.ensures.mets c.none.ensures.replies c.none.ensures.last
    (if_some _ _ c.end_all-ends.result (λ a e. works_not g.N.Link.Link.given g.N.Link.Link.got id was before now after locks passes (lists_of a.told) a.boot a.fault e table rows less c.requires.fresh c.args.fault fails) c.end_all-ends.ensures.ended)
