use Rattle.std.proofs.Common.{length, sym, subst, rules, arith}
use Rattle.std.specs.String.{string_bytes}
use Rattle.ec_lock.specs.declared.types.TracedLock.{TracedLock}
use Rattle.ec_clerknode.specs.declared.shared.SharedClerk.{SharedClerk}
use Rattle.ec_clerknode.specs.declared.state.Node.{Node}
use Rattle.ec_clerknode.specs.declared.step.Step.{Step}
use Rattle.ec_mount.specs.Run.{NetSeen}
use Rattle.ec_mount_words.specs.Mounts.{IsMount}
use Rattle.ec_mount_table.proofs.Paths.{mount_here}
use Rattle.ec_mount_table.proofs.Volumes.{volumes_done, volumes_fail, volumes_more, volumes_none, volumes_want}
use Rattle.ec_mount_table.proofs.reach.reach_all.Goals as goal

pub words-init : goal.words-init
words-init g c =
    let lock_of : SharedClerk g.row.N-Link.Denot g.row.N-Link-Bell.Denot → TracedLock (Node g.row.N-Link.Denot) Step = λ k. k.lock in
    let net : NetSeen = record { faults = g.N.Net.faults c.args.net.now; bad = g.N.Net.bad c.args.net.now; ended = g.N.Net.ended c.args.net.now } in
    (omega arith, omega arith, volumes_none lock_of g.N.Link.Link.given g.N.Link.Link.got c.args.volumes.now.clerk c.args.volumes.now.boot c.args.list.now.items net c.requires.none)

pub mount_of-requires : goal.mount_of-requires
mount_of-requires g c =
    let words = c.args.volumes.now.words.now in
    let word = c.word-item.result in
    subst IsMount (sym c.as_str.ensures.value) (mount_here string_bytes words c.words.word-index word c.requires.words c.words-test.true c.word-item.is)

pub returns-in_err-path-clause-reached : goal.returns-in_err-path-clause-reached
returns-in_err-path-clause-reached g c =
    let lock_of : SharedClerk g.row.N-Link.Denot g.row.N-Link-Bell.Denot → TracedLock (Node g.row.N-Link.Denot) Step = λ k. k.lock in
    let start : NetSeen = record { faults = g.N.Net.faults c.args.net.now; bad = g.N.Net.bad c.args.net.now; ended = g.N.Net.ended c.args.net.now } in
    let now : NetSeen = record { faults = g.N.Net.faults c.words.net; bad = g.N.Net.bad c.words.net; ended = g.N.Net.ended c.words.net } in
    let volumes = c.args.volumes.now in
    let wants = volumes_want lock_of g.N.Link.Link.given g.N.Link.Link.got volumes.clerk volumes.boot c.words.word-index (length volumes.words.now) start now now c.words.list.items c.words.invariant.2 c.words-test.true in
    search (rules, wants)

pub returns-in_err-shared-clause-reached : goal.returns-in_err-shared-clause-reached
returns-in_err-shared-clause-reached g c =
    let lock_of : SharedClerk g.row.N-Link.Denot g.row.N-Link-Bell.Denot → TracedLock (Node g.row.N-Link.Denot) Step = λ k. k.lock in
    let start : NetSeen = record { faults = g.N.Net.faults c.args.net.now; bad = g.N.Net.bad c.args.net.now; ended = g.N.Net.ended c.args.net.now } in
    let now : NetSeen = record { faults = g.N.Net.faults c.words.net; bad = g.N.Net.bad c.words.net; ended = g.N.Net.ended c.words.net } in
    let later : NetSeen = record { faults = g.N.Net.faults c.reach.new.net; bad = g.N.Net.bad c.reach.new.net; ended = g.N.Net.ended c.reach.new.net } in
    let volumes = c.args.volumes.now in
    let fails = volumes_fail lock_of g.N.Link.Link.given g.N.Link.Link.got volumes.clerk volumes.boot c.words.word-index (length volumes.words.now) start now later c.words.list.items c.words.invariant.2 c.words-test.true c.in_err-shared.field-0.0 c.reach.ensures.later c.in_err-shared.ensures.err in
    search (rules, fails)

pub returns-in_err-push-clause-seated : goal.returns-in_err-push-clause-seated
returns-in_err-push-clause-seated g c = rw c.in_err-push.ensures.items c.words.invariant.2.0

pub returns-in_err-push-clause-fresh : goal.returns-in_err-push-clause-fresh
returns-in_err-push-clause-fresh g c = rw c.in_err-push.ensures.items c.words.invariant.2.1

pub returns-in_err-push-clause-alone : goal.returns-in_err-push-clause-alone
returns-in_err-push-clause-alone g c = rw c.in_err-push.ensures.items c.words.invariant.2.2

pub returns-in_err-push-clause-reached : goal.returns-in_err-push-clause-reached
returns-in_err-push-clause-reached g c =
    let lock_of : SharedClerk g.row.N-Link.Denot g.row.N-Link-Bell.Denot → TracedLock (Node g.row.N-Link.Denot) Step = λ k. k.lock in
    let start : NetSeen = record { faults = g.N.Net.faults c.args.net.now; bad = g.N.Net.bad c.args.net.now; ended = g.N.Net.ended c.args.net.now } in
    let now : NetSeen = record { faults = g.N.Net.faults c.words.net; bad = g.N.Net.bad c.words.net; ended = g.N.Net.ended c.words.net } in
    let later : NetSeen = record { faults = g.N.Net.faults c.reach.new.net; bad = g.N.Net.bad c.reach.new.net; ended = g.N.Net.ended c.reach.new.net } in
    let volumes = c.args.volumes.now in
    let wants = volumes_want lock_of g.N.Link.Link.given g.N.Link.Link.got volumes.clerk volumes.boot c.words.word-index (length volumes.words.now) start now later c.words.list.items c.words.invariant.2 c.words-test.true in
    rw c.in_err-push.ensures.items (search (rules, wants))

pub words-preserved : goal.words-preserved
words-preserved g c =
    let lock_of : SharedClerk g.row.N-Link.Denot g.row.N-Link-Bell.Denot → TracedLock (Node g.row.N-Link.Denot) Step = λ k. k.lock in
    let start : NetSeen = record { faults = g.N.Net.faults c.args.net.now; bad = g.N.Net.bad c.args.net.now; ended = g.N.Net.ended c.args.net.now } in
    let now : NetSeen = record { faults = g.N.Net.faults c.words.net; bad = g.N.Net.bad c.words.net; ended = g.N.Net.ended c.words.net } in
    let later : NetSeen = record { faults = g.N.Net.faults c.reach.new.net; bad = g.N.Net.bad c.reach.new.net; ended = g.N.Net.ended c.reach.new.net } in
    let volumes = c.args.volumes.now in
    let had = c.words.invariant.0 in
    let more = c.reach.ensures.later in (
      omega (arith, had, more),
      omega (arith, c.words-test.true),
      volumes_more lock_of g.N.Link.Link.given g.N.Link.Link.got volumes.clerk volumes.boot c.words.word-index start now later c.words.list.items c.push.new.self.items (c.in_ok-path.path, c.in_ok-shared.shared, c.in_ok-shared.pass) c.in_ok-push.ensures.items more c.words.invariant.2 c.in_ok-shared.ensures.pass c.in_ok-shared.ensures.greeted,
    )

pub returns-clause-reached : goal.returns-clause-reached
returns-clause-reached g c =
    let lock_of : SharedClerk g.row.N-Link.Denot g.row.N-Link-Bell.Denot → TracedLock (Node g.row.N-Link.Denot) Step = λ k. k.lock in
    let start : NetSeen = record { faults = g.N.Net.faults c.args.net.now; bad = g.N.Net.bad c.args.net.now; ended = g.N.Net.ended c.args.net.now } in
    let now : NetSeen = record { faults = g.N.Net.faults c.words.net; bad = g.N.Net.bad c.words.net; ended = g.N.Net.ended c.words.net } in
    let volumes = c.args.volumes.now in
    let most = c.words.invariant.1 in
    let all = c.words-test.false in
    volumes_done lock_of g.N.Link.Link.given g.N.Link.Link.got volumes.clerk volumes.boot c.words.word-index (length volumes.words.now) start now now c.words.list.items c.words.invariant.2 (omega (arith, most, all))
