use Rattle.std.proofs.Common.{◌+◌, Some, subst}
use Rattle.ec_clerknode.specs.LaneRuns.{lists_of}
use Rattle.ec_clerknode.specs.PresentLink.{LinksBy}
use Rattle.ec_lock.specs.PassViews.{first, front}
use Rattle.ec_mount.specs.Run.{NetSeen}
use Rattle.ec_mount.specs.Work as work
use Rattle.ec_mount.proofs.Running.{runs_over, runs_left}
use Rattle.ec_mount.proofs.work.run_over.Goals as goal

pub returns-clause-runs : goal.returns-clause-runs
returns-clause-runs g c =
    let lock = c.in-Ok.shared.lock in
    let made = c.in-Some.made in
    let called = c.in-Some.ensures.called in
    let before : NetSeen = record { faults = g.N.Net.faults c.args.net.now; bad = g.N.Net.bad c.args.net.now; ended = g.N.Net.ended c.args.net.now } in
    let after : NetSeen = record { faults = g.N.Net.faults c.make_linked.new.net; bad = g.N.Net.bad c.make_linked.new.net; ended = g.N.Net.ended c.make_linked.new.net } in
    let ran = runs_over lock c.in-Ok.pass c.in-Some.pass c.close.new.pass c.args.lanes.items (lists_of made.lanes) made.last called c.in-Ok.ensures.pass.2 c.close.ensures.later c.close.ensures.own called.is_pass.1
    (λ l. g.N.Link.Link.faults l + g.N.Link.Link.closes l) g.N.Link.Link.given g.N.Link.Link.got (first lock) c.args.clerk c.args.greeted.link c.close.result.link c.in-Ok.ensures.clerk c.in-Ok.ensures.link before after (subst (λ o. LinksBy o (front c.close.new.pass)) c.in-Ok.ensures.linker c.close.ensures.links)
    c.close.result.clerk c.close.result.told.items c.close.result.boot (work.given_of c.conclude-link.result.1) c.in-Some.ensures.linked c.close.ensures.finished c.close.ensures.said c.close.ensures.told c.close.ensures.boot c.conclude-link.ensures.result in
    runs_left g.N.Link.Link.faults g.N.Link.Link.closes g.N.Link.Link.given g.N.Link.Link.got c.args.clerk c.args.lanes.items _ before after c.close.result.link c.conclude-link.result.0 c.left.result (work.given_of c.conclude-link.result.1) c.conclude-link.ensures.link c.left.ensures.counts c.left.ensures.bodies ran
