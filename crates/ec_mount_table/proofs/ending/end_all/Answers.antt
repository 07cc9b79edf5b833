use Rattle.std.proofs.Common.{◌≡◌, ◌∙◌, ◌<◌, [], ◌∷◌, length, map, None, refl, sym, subst, arith}
use Rattle.ec_lock.specs.PassViews.{first, IsPassOf}
use Rattle.ec_lock.specs.declared.types.Pass.{Pass}
use Rattle.ec_lock.specs.declared.types.TracedLock.{TracedLock}
use Rattle.ec_clerknode.specs.declared.shared.SharedClerk.{SharedClerk}
use Rattle.ec_clerknode.specs.declared.state.Node.{Node}
use Rattle.ec_clerknode.specs.declared.step.Step.{Step}
use Rattle.ec_mount.specs.Run.{NetSeen}
use Rattle.ec_mounts.specs.declared.part.Part.{Part}
use Rattle.ec_mounts.proofs.Built.{none_where}
use Rattle.ec_mounts.proofs.Seats.{IsNothing, any_of, same_length, seated_popped}
use Rattle.ec_mount_table.proofs.Partings.{left_first, left_next, left_over}
use Rattle.ec_mount_table.proofs.Places.{each_last, each_left}
use Rattle.ec_mount_table.proofs.ending.end_all.Goals as goal

pub volumes-init : goal.volumes-init
volumes-init g c =
    let lock_of : SharedClerk g.row.N-Link.Denot g.row.N-Link-Bell.Denot → TracedLock (Node g.row.N-Link.Denot) Step = λ k. k.lock in
    let pass_of : Part g.row.N-Link.Denot g.row.N-Link-Bell.Denot → Pass (Node g.row.N-Link.Denot) Step = λ p. p.pass in
    let net : NetSeen = record { faults = g.N.Net.faults c.args.net.now; bad = g.N.Net.bad c.args.net.now; ended = g.N.Net.ended c.args.net.now } in
    (c.requires.seated, c.requires.alone, refl {a = g.N.Net.faults c.args.net.now}, left_first g.N.Link.Link.given g.N.Link.Link.got c.args.is_done net (map lock_of c.args.clerks.items) (map pass_of c.args.parts.items) c.new.result c.new.ensures.items)

pub unreachable-requires : goal.unreachable-requires
unreachable-requires g c =
    let lock_of : SharedClerk g.row.N-Link.Denot g.row.N-Link-Bell.Denot → TracedLock (Node g.row.N-Link.Denot) Step = λ k. k.lock in
    let pass_of : Part g.row.N-Link.Denot g.row.N-Link-Bell.Denot → Pass (Node g.row.N-Link.Denot) Step = λ p. p.pass in
    let clerks = c.volumes.clerks in
    let parts = c.volumes.parts in
    let same = same_length lock_of pass_of clerks.items parts.items c.volumes.invariant.0 in
    let inside : 0 < length parts.items = omega (arith, same, clerks.ok.0, c.in-Some.ensures.cases) in
    subst IsNothing (sym c.in_default-pop.is ∙ c.pop-in-Some.ensures.value (any_of parts.items 0 inside) (omega (arith, inside, parts.ok.0))) tt

pub end_one-one-requires-clause-pass : goal.end_one-one-requires-clause-pass
end_one-one-requires-clause-pass g c κs within =
    let lock_of : SharedClerk g.row.N-Link.Denot g.row.N-Link-Bell.Denot → TracedLock (Node g.row.N-Link.Denot) Step = λ k. k.lock in
    let pass_of : Part g.row.N-Link.Denot g.row.N-Link-Bell.Denot → Pass (Node g.row.N-Link.Denot) Step = λ p. p.pass in
    subst (IsPassOf c.in-Some.clerk.lock) (sym c.pass_of.ensures)
    (seated_popped lock_of pass_of c.volumes.clerks.items c.pop.new.self.items c.volumes.parts.items c.pop-in-Some.new.self.items c.in-Some.clerk c.in-Some-pop.part c.in-Some.ensures.items c.in-Some-pop.ensures.items c.volumes.invariant.0).1

pub end_one-one-requires-clause-alone : goal.end_one-one-requires-clause-alone
end_one-one-requires-clause-alone g c κs within =
    each_last c.volumes.clerks.items c.pop.new.self.items c.in-Some.clerk (λ place clerk. (first clerk.lock).linker ≡ None) c.in-Some.ensures.items c.volumes.invariant.1

pub volumes-preserved : goal.volumes-preserved
volumes-preserved g c =
    let lock_of : SharedClerk g.row.N-Link.Denot g.row.N-Link-Bell.Denot → TracedLock (Node g.row.N-Link.Denot) Step = λ k. k.lock in
    let pass_of : Part g.row.N-Link.Denot g.row.N-Link-Bell.Denot → Pass (Node g.row.N-Link.Denot) Step = λ p. p.pass in
    let before : NetSeen = record { faults = g.N.Net.faults c.args.net.now; bad = g.N.Net.bad c.args.net.now; ended = g.N.Net.ended c.args.net.now } in
    let mid : NetSeen = record { faults = g.N.Net.faults c.volumes.net; bad = g.N.Net.bad c.volumes.net; ended = g.N.Net.ended c.volumes.net } in
    let after : NetSeen = record { faults = g.N.Net.faults c.end_one-one.new.net; bad = g.N.Net.bad c.end_one-one.new.net; ended = g.N.Net.ended c.end_one-one.new.net } in
    let clerks = c.volumes.clerks.items in
    let less = c.pop.new.self.items in
    let clerk = c.in-Some.clerk in
    let parts = c.volumes.parts.items in
    let fewer = c.pop-in-Some.new.self.items in
    let part = c.in-Some-pop.part in (
      (seated_popped lock_of pass_of clerks less parts fewer clerk part c.in-Some.ensures.items c.in-Some-pop.ensures.items c.volumes.invariant.0).0,
      each_left clerks less (clerk ∷ []) (λ place clerk. (first clerk.lock).linker ≡ None) c.in-Some.ensures.items c.volumes.invariant.1,
      c.end_one-one.ensures.later ∙ c.volumes.invariant.2,
      left_next g.N.Link.Link.given g.N.Link.Link.got c.args.is_done lock_of pass_of (map lock_of c.args.clerks.items) (map pass_of c.args.parts.items) before mid after clerks less clerk parts fewer part c.end_one-one.result c.volumes.all c.joined-all.result
          c.in-Some.ensures.items c.in-Some-pop.ensures.items c.volumes.invariant.3 (rw c.pass_of.ensures at c.end_one-one.ensures.ended) c.joined-all.ensures,
    )

pub returns-clause-ended : goal.returns-clause-ended
returns-clause-ended g c =
    let lock_of : SharedClerk g.row.N-Link.Denot g.row.N-Link-Bell.Denot → TracedLock (Node g.row.N-Link.Denot) Step = λ k. k.lock in
    let pass_of : Part g.row.N-Link.Denot g.row.N-Link-Bell.Denot → Pass (Node g.row.N-Link.Denot) Step = λ p. p.pass in
    let before : NetSeen = record { faults = g.N.Net.faults c.args.net.now; bad = g.N.Net.bad c.args.net.now; ended = g.N.Net.ended c.args.net.now } in
    let now : NetSeen = record { faults = g.N.Net.faults c.volumes.net; bad = g.N.Net.bad c.volumes.net; ended = g.N.Net.ended c.volumes.net } in
    let clerks = c.volumes.clerks in
    let none = none_where clerks.items clerks.len clerks.ok.0 c.in_default.ensures.cases.0 in
    left_over g.N.Link.Link.given g.N.Link.Link.got c.args.is_done lock_of pass_of (map lock_of c.args.clerks.items) (map pass_of c.args.parts.items) before now clerks.items c.volumes.parts.items c.volumes.all none c.volumes.invariant.0 c.volumes.invariant.3
