use Rattle.std.proofs.Common.{◌+◌, refl}
use Rattle.ec_mount.specs.Run.{NetSeen}
use Rattle.ec_mount.proofs.Unsent.{came_none, took_all, has_failed, lost_one}
use Rattle.ec_mount.proofs.greeting.greet_once.Goals as goal

pub returns-in-Ok-clause-took : goal.returns-in-Ok-clause-took
returns-in-Ok-clause-took g c = took_all c.args.outs.now (g.N.Link.Link.given c.args.link) (g.N.Link.Link.given c.greet_by.new.link) (g.N.Link.Link.got c.args.link) (g.N.Link.Link.got c.greet_by.new.link) c.requires.0 c.requires.1 c.greet_by.ensures.given c.in-Ok.ensures.ok

pub returns-in-Ok-clause-came : goal.returns-in-Ok-clause-came
returns-in-Ok-clause-came g c =
    let before : NetSeen = record { faults = g.N.Net.faults c.args.net.now; bad = g.N.Net.bad c.args.net.now; ended = g.N.Net.ended c.args.net.now } in
    came_none c.args.outs.now before before refl refl

pub returns-in_ok-back-in-Err-Failed-clause-came : goal.returns-in_ok-back-in-Err-Failed-clause-came
returns-in_ok-back-in-Err-Failed-clause-came g c =
    let before : NetSeen = record { faults = g.N.Net.faults c.args.net.now; bad = g.N.Net.bad c.args.net.now; ended = g.N.Net.ended c.args.net.now } in
    let after : NetSeen = record { faults = g.N.Net.faults c.back.new.self; bad = g.N.Net.bad c.back.new.self; ended = g.N.Net.ended c.back.new.self } in
    let link = c.greet_by.new.link in
    let some = has_failed g.row.N-Link-Bell.Denot c.in-Err-Failed.field-0 (g.N.Link.Link.faults c.args.link + g.N.Link.Link.closes c.args.link) (g.N.Link.Link.faults link + g.N.Link.Link.closes link) c.in-Err-Failed.field-0-is c.in-Err-Failed.ensures.counts in
    (lost_one c.args.outs.now before after (g.N.Link.Link.faults link) (g.N.Link.Link.closes link) c.greet_by.ensures.got.0 (g.N.Link.Link.given c.args.link) (g.N.Link.Link.given link) (g.N.Link.Link.got c.args.link) (g.N.Link.Link.got link)
    c.requires.0 c.requires.1 c.greet_by.ensures.given c.greet_by.ensures.got.1 some c.in_ok-back-in-Err-Failed.ensures.bad c.in_ok-back-in-Err-Failed.ensures.ended).0

pub returns-in_ok-back-in-Err-Failed-clause-lost : goal.returns-in_ok-back-in-Err-Failed-clause-lost
returns-in_ok-back-in-Err-Failed-clause-lost g c =
    let before : NetSeen = record { faults = g.N.Net.faults c.args.net.now; bad = g.N.Net.bad c.args.net.now; ended = g.N.Net.ended c.args.net.now } in
    let after : NetSeen = record { faults = g.N.Net.faults c.back.new.self; bad = g.N.Net.bad c.back.new.self; ended = g.N.Net.ended c.back.new.self } in
    let link = c.greet_by.new.link in
    let some = has_failed g.row.N-Link-Bell.Denot c.in-Err-Failed.field-0 (g.N.Link.Link.faults c.args.link + g.N.Link.Link.closes c.args.link) (g.N.Link.Link.faults link + g.N.Link.Link.closes link) c.in-Err-Failed.field-0-is c.in-Err-Failed.ensures.counts in
    lost_one c.args.outs.now before after (g.N.Link.Link.faults link) (g.N.Link.Link.closes link) c.greet_by.ensures.got.0 (g.N.Link.Link.given c.args.link) (g.N.Link.Link.given link) (g.N.Link.Link.got c.args.link) (g.N.Link.Link.got link)
    c.requires.0 c.requires.1 c.greet_by.ensures.given c.greet_by.ensures.got.1 some c.in_ok-back-in-Err-Failed.ensures.bad c.in_ok-back-in-Err-Failed.ensures.ended
