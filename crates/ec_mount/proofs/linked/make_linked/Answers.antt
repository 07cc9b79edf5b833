use Rattle.std.proofs.Common.{◌≡◌, ◌+◌, [], rules}
use Rattle.ec_lock.specs.PassViews.{first}
use Rattle.ec_clerknode.specs.LaneRuns.{lists_of}
use Rattle.ec_mount.proofs.Passing.{drew_one}
use Rattle.ec_mount.proofs.Joined.{called_joined}
use Rattle.ec_mount.proofs.Linking.{has_linked}
use Rattle.ec_mount.proofs.Parts.{called_by, linked_by}
use Rattle.ec_mount.proofs.linked.make_linked.Goals as goal

pub returns-clause-called : goal.returns-clause-called
returns-clause-called g c =
    let lock = c.args.clerk.now.lock in
    let both = c.run_both-both.result in
    let made = c.in_ok-made.made in
    let a = c.split.ensures in
    let j = c.join.ensures in
    called_joined lock c.args.pass c.split.new.pass both.pass both.other c.join.new.pass (drew_one lock c.args.pass c.split.new.pass a.pass a.same a.goes.1 a.own)
    (record { is_pass = j.pass; number = j.number; later = j.later; other_later = j.other; own = j.own; others = j.others; apart = j.apart; both = j.same.0 })
    c.args.lanes.items (lists_of made.lanes) made.last (called_by lock c.split.new.pass both.pass c.args.lanes.items both.called made c.in_ok-made.ensures c.run_both-both.ensures.called)

pub returns-clause-linked : goal.returns-clause-linked
returns-clause-linked g c =
    let lock = c.args.clerk.now.lock in
    let both = c.run_both-both.result in
    let net = c.in-Some.field-0.net.now in
    let drawn = c.in_ok-other.other in
    let new = c.in_ok-other.ensures in
    let j = c.join.ensures in
    let did = linked_by lock (λ l. l.net.ghost_name) (λ l. record { faults = g.N.Net.faults l.net.now; bad = g.N.Net.bad l.net.now; ended = g.N.Net.ended l.net.now }) (λ l. g.N.Link.Link.faults l + g.N.Link.Link.closes l) g.N.Link.Link.given g.N.Link.Link.got
    (record { net = record { ref_ptr = c.args.net.ref_ptr; ghost_name = _; now = c.args.net.now } }) drawn both.other [] c.run_both-both.new.lent both.linked c.run_both-both.ensures.linked c.in-Some.field-0 c.in-Some.is (c.has_linked.ensures (search rules)) in
    let has = has_linked (λ l. g.N.Link.Link.faults l + g.N.Link.Link.closes l) g.N.Link.Link.given g.N.Link.Link.got (first lock) lock c.split.new.pass drawn both.other both.pass c.join.new.pass
    (record { faults = g.N.Net.faults c.args.net.now; bad = g.N.Net.bad c.args.net.now; ended = g.N.Net.ended c.args.net.now }) (record { faults = g.N.Net.faults net; bad = g.N.Net.bad net; ended = g.N.Net.ended net })
    (search rules) new.new_front.0 new.new_number.0 did.0 did.1 j.other j.others j.same.0 in
    search (rules, has)
