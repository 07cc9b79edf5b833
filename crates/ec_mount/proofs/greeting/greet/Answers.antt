use Rattle.std.proofs.Common.{◌+◌, ◌≤◌, arith, rules}
use Rattle.ec_mount.specs.Run.{NetSeen}
use Rattle.ec_mount.proofs.Unsent.{came_called, came_more, lost_called, lost_more}
use Rattle.ec_mount.proofs.greeting.greet.Goals as goal

pub loop-preserved-in_default-call : goal.loop-preserved-in_default-call
loop-preserved-in_default-call g c =
    let start : NetSeen = record { faults = g.N.Net.faults c.args.net.now; bad = g.N.Net.bad c.args.net.now; ended = g.N.Net.ended c.args.net.now } in
    let before : NetSeen = record { faults = g.N.Net.faults c.loop.net; bad = g.N.Net.bad c.loop.net; ended = g.N.Net.ended c.loop.net } in
    let called : NetSeen = record { faults = g.N.Net.faults c.call.new.self; bad = g.N.Net.bad c.call.new.self; ended = g.N.Net.ended c.call.new.self } in (
      search rules,
      search rules,
      (let few = c.loop.invariant.2 in let more = c.call.ensures.faults in omega arith),
      lost_called c.args.outs.now start before called c.loop.invariant.3 c.call.ensures.same.0 c.call.ensures.same.1,
    )

pub returns-in-Some-3-clause-came : goal.returns-in-Some-3-clause-came
returns-in-Some-3-clause-came g c =
    let start : NetSeen = record { faults = g.N.Net.faults c.args.net.now; bad = g.N.Net.bad c.args.net.now; ended = g.N.Net.ended c.args.net.now } in
    let before : NetSeen = record { faults = g.N.Net.faults c.loop.net; bad = g.N.Net.bad c.loop.net; ended = g.N.Net.ended c.loop.net } in
    let called : NetSeen = record { faults = g.N.Net.faults c.call.new.self; bad = g.N.Net.bad c.call.new.self; ended = g.N.Net.ended c.call.new.self } in
    let now : NetSeen = record { faults = g.N.Net.faults c.greet_once-in-loop.new.net; bad = g.N.Net.bad c.greet_once-in-loop.new.net; ended = g.N.Net.ended c.greet_once-in-loop.new.net } in
    came_more c.args.outs.now start called now (came_called c.args.outs.now start before called c.loop.invariant.3.0 c.call.ensures.same.0 c.call.ensures.same.1) c.in_ok-greeted-2.ensures.came

pub loop-preserved : goal.loop-preserved
loop-preserved g c =
    let start : NetSeen = record { faults = g.N.Net.faults c.args.net.now; bad = g.N.Net.bad c.args.net.now; ended = g.N.Net.ended c.args.net.now } in
    let before : NetSeen = record { faults = g.N.Net.faults c.loop.net; bad = g.N.Net.bad c.loop.net; ended = g.N.Net.ended c.loop.net } in
    let called : NetSeen = record { faults = g.N.Net.faults c.call.new.self; bad = g.N.Net.bad c.call.new.self; ended = g.N.Net.ended c.call.new.self } in
    let now : NetSeen = record { faults = g.N.Net.faults c.greet_once-in-loop.new.net; bad = g.N.Net.bad c.greet_once-in-loop.new.net; ended = g.N.Net.ended c.greet_once-in-loop.new.net } in (
      search rules,
      search rules,
      (let few = c.loop.invariant.2 in let more = c.call.ensures.faults in let last = c.greet_once-in-loop.ensures.later in omega arith),
      lost_more c.args.outs.now start called now (lost_called c.args.outs.now start before called c.loop.invariant.3 c.call.ensures.same.0 c.call.ensures.same.1) c.in_ok-greeted-2.ensures.came,
    )
