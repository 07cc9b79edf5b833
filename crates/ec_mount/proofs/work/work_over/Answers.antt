use Rattle.std.proofs.Common.{◌+◌, refl, sym, subst}
use Rattle.ec_mount.specs.Run.{NetSeen, CameUnsent}
use Rattle.ec_mount.specs.Work as work
use Rattle.ec_mount.proofs.Running.{seen_of, works_over, works_not}
use Rattle.ec_mount.proofs.work.work_over.Goals as goal

pub returns-in-Err-clause-works : goal.returns-in-Err-clause-works
returns-in-Err-clause-works g c =
    let before : NetSeen = record { faults = g.N.Net.faults c.args.net.now; bad = g.N.Net.bad c.args.net.now; ended = g.N.Net.ended c.args.net.now } in
    let after : NetSeen = record { faults = g.N.Net.faults c.greet.new.net; bad = g.N.Net.bad c.greet.new.net; ended = g.N.Net.ended c.greet.new.net } in
    subst (work.WorksOver c.args.started.0 c.args.started.1.items c.args.lanes.items before after) (sym c.none.ensures)
    (works_not c.args.started.0 c.args.started.1.items c.args.lanes.items before after c.in-Err.fault (subst (λ o. work.NotGreeted o before after c.in-Err.fault) c.deref.ensures.value c.in-Err.ensures.err))

pub returns-in-Ok-back-clause-works : goal.returns-in-Ok-back-clause-works
returns-in-Ok-back-clause-works g c =
    let seen = seen_of (λ l. g.N.Link.Link.faults l + g.N.Link.Link.closes l) g.N.Link.Link.given g.N.Link.Link.got in
    let link = c.in-Some.link in
    let before : NetSeen = record { faults = g.N.Net.faults c.args.net.now; bad = g.N.Net.bad c.args.net.now; ended = g.N.Net.ended c.args.net.now } in
    let greeted : NetSeen = record { faults = g.N.Net.faults c.greet.new.net; bad = g.N.Net.bad c.greet.new.net; ended = g.N.Net.ended c.greet.new.net } in
    let ran : NetSeen = record { faults = g.N.Net.faults c.run_over.new.net; bad = g.N.Net.bad c.run_over.new.net; ended = g.N.Net.ended c.run_over.new.net } in
    let after : NetSeen = record { faults = g.N.Net.faults c.back.new.self; bad = g.N.Net.bad c.back.new.self; ended = g.N.Net.ended c.back.new.self } in
    works_over c.args.started.0 c.args.started.1.items c.args.lanes.items before greeted ran after (g.N.Link.Link.faults link) (g.N.Link.Link.closes link) (seen c.in-Ok.greeted.link) (seen link)
    (subst (λ o. CameUnsent o before greeted) c.deref.ensures.value c.in-Ok.ensures.came) (subst (λ o. work.Took o (g.N.Link.Link.given c.in-Ok.greeted.link) (g.N.Link.Link.got c.in-Ok.greeted.link)) c.deref.ensures.value c.in-Ok.ensures.took) refl c.in-Ok-back.ensures.bad c.in-Ok-back.ensures.ended (work.given_of c.in-Some.answers) c.in-Some.ensures.runs
