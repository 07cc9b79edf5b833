use Rattle.ec_lock.specs.PassViews.{first}
use Rattle.ec_lock.specs.declared.types.Pass.{Pass}
use Rattle.ec_clerknode.specs.declared.shared.SharedClerk.{SharedClerk}
use Rattle.ec_clerknode.specs.declared.state.Node.{Node}
use Rattle.ec_clerknode.specs.declared.step.Step.{Step}
use Rattle.ec_mount.specs.Run.{NetSeen}
use Rattle.ec_mount_table.proofs.Greetings.{greeted_of, not_greeted, passes_of, wants}
use Rattle.ec_mount_table.proofs.reach.reach.Goals as goal

pub returns-in-Err-greet-clause-err : goal.returns-in-Err-greet-clause-err
returns-in-Err-greet-clause-err g c =
    let before : NetSeen = record { faults = g.N.Net.faults c.args.net.now; bad = g.N.Net.bad c.args.net.now; ended = g.N.Net.ended c.args.net.now } in
    let called : NetSeen = record { faults = g.N.Net.faults c.call.new.self; bad = g.N.Net.bad c.call.new.self; ended = g.N.Net.ended c.call.new.self } in
    let now : NetSeen = record { faults = g.N.Net.faults c.greet.new.net; bad = g.N.Net.bad c.greet.new.net; ended = g.N.Net.ended c.greet.new.net } in
    not_greeted c.args.who.now.clerk c.args.boot c.in-Ok.made.0 c.in-Ok.made.1.items c.deref.result.now before called now c.in-Ok.ensures.ok c.deref.ensures.value c.in-Ok-call.ensures.same c.in-Err-greet.fault c.in-Err-greet.ensures.err

pub returns-clause-pass : goal.returns-clause-pass
returns-clause-pass g c = passes_of (λ (k : SharedClerk g.row.N-Link.Denot g.row.N-Link-Bell.Denot). k.lock) c.new.result c.new.ensures.pass

pub returns-clause-greeted : goal.returns-clause-greeted
returns-clause-greeted g c =
    let before : NetSeen = record { faults = g.N.Net.faults c.args.net.now; bad = g.N.Net.bad c.args.net.now; ended = g.N.Net.ended c.args.net.now } in
    let called : NetSeen = record { faults = g.N.Net.faults c.call.new.self; bad = g.N.Net.bad c.call.new.self; ended = g.N.Net.ended c.call.new.self } in
    let now : NetSeen = record { faults = g.N.Net.faults c.greet.new.net; bad = g.N.Net.bad c.greet.new.net; ended = g.N.Net.ended c.greet.new.net } in
    greeted_of c.args.who.now.clerk c.args.boot c.in-Ok.made.0 c.in-Ok.made.1.items c.deref.result.now before called now c.in-Ok.ensures.ok c.deref.ensures.value c.in-Ok-call.ensures.same
    g.N.Link.Link.given g.N.Link.Link.got c.in-Ok-greet.greeted.link (λ (m : SharedClerk g.row.N-Link.Denot g.row.N-Link-Bell.Denot × Pass (Node g.row.N-Link.Denot) Step). first m.0.lock) c.new.result
    c.in-Ok-greet.ensures.came c.in-Ok-greet.ensures.took c.new.ensures.clerk c.new.ensures.link c.new.ensures.linker

pub returns-clause-err : goal.returns-clause-err
returns-clause-err g c =
    let before : NetSeen = record { faults = g.N.Net.faults c.args.net.now; bad = g.N.Net.bad c.args.net.now; ended = g.N.Net.ended c.args.net.now } in
    let now : NetSeen = record { faults = g.N.Net.faults c.greet.new.net; bad = g.N.Net.bad c.greet.new.net; ended = g.N.Net.ended c.greet.new.net } in
    wants c.args.who.now.clerk c.args.boot before now c.new.result c.new.ensures.err
