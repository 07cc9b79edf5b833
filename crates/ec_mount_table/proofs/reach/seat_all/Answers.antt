use Rattle.std.proofs.Common.{length, sym, subst}
use Rattle.ec_lock.specs.PassViews.{IsPassOf}
use Rattle.ec_lock.specs.declared.types.Pass.{Pass}
use Rattle.ec_lock.specs.declared.types.TracedLock.{TracedLock}
use Rattle.ec_clerknode.specs.declared.shared.SharedClerk.{SharedClerk}
use Rattle.ec_clerknode.specs.declared.state.Node.{Node}
use Rattle.ec_clerknode.specs.declared.step.Step.{Step}
use Rattle.ec_plain.specs.Walk.{Path}
use Rattle.ec_mount.specs.Run.{NetSeen}
use Rattle.ec_mounts.specs.declared.part.Part.{Part}
use Rattle.ec_mount_table.specs.Going.{ReachedUpTo}
use Rattle.ec_mount_table.proofs.Places.{all_of_each}
use Rattle.ec_mount_table.proofs.Seating.{clerks_alone, locks_same, parts_fresh, parts_seated}
use Rattle.ec_mount_table.proofs.reach.seat_all.Goals as goal

pub new-requires-after_bounds : goal.new-requires-after_bounds
new-requires-after_bounds g c κs within =
    all_of_each (λ (one : Path × SharedClerk g.row.N-Link.Denot g.row.N-Link-Bell.Denot × Pass (Node g.row.N-Link.Denot) Step). IsPassOf one.1.lock one.2) c.reach_all-end.new.list.items c.reach_all-end.ensures.seated

pub returns-clause-seated : goal.returns-clause-seated
returns-clause-seated g c =
    let lock_of : SharedClerk g.row.N-Link.Denot g.row.N-Link-Bell.Denot → TracedLock (Node g.row.N-Link.Denot) Step = λ k. k.lock in
    let pass_of : Part g.row.N-Link.Denot g.row.N-Link-Bell.Denot → Pass (Node g.row.N-Link.Denot) Step = λ p. p.pass in
    let made = c.in-Ok.mounts in
    parts_seated lock_of pass_of c.reach_all-end.new.list.items made.clerks.items c.into_parts-clerks.result.0.items made.parts.items c.into_parts-clerks.result.1.items c.into_parts-clerks.ensures.clerks c.into_parts-clerks.ensures.parts c.in-Ok.ensures.clerks c.in-Ok.ensures.passes c.in-Ok.ensures.seated

pub returns-clause-fresh : goal.returns-clause-fresh
returns-clause-fresh g c =
    let lock_of : SharedClerk g.row.N-Link.Denot g.row.N-Link-Bell.Denot → TracedLock (Node g.row.N-Link.Denot) Step = λ k. k.lock in
    let pass_of : Part g.row.N-Link.Denot g.row.N-Link-Bell.Denot → Pass (Node g.row.N-Link.Denot) Step = λ p. p.pass in
    let made = c.in-Ok.mounts in
    parts_fresh lock_of pass_of c.reach_all-end.new.list.items made.clerks.items c.into_parts-clerks.result.0.items made.parts.items c.into_parts-clerks.result.1.items c.into_parts-clerks.ensures.clerks c.into_parts-clerks.ensures.parts c.in-Ok.ensures.clerks c.in-Ok.ensures.passes c.reach_all-end.ensures.fresh

pub returns-clause-alone : goal.returns-clause-alone
returns-clause-alone g c =
    let lock_of : SharedClerk g.row.N-Link.Denot g.row.N-Link-Bell.Denot → TracedLock (Node g.row.N-Link.Denot) Step = λ k. k.lock in
    let pass_of : Part g.row.N-Link.Denot g.row.N-Link-Bell.Denot → Pass (Node g.row.N-Link.Denot) Step = λ p. p.pass in
    let made = c.in-Ok.mounts in
    clerks_alone lock_of pass_of c.reach_all-end.new.list.items made.clerks.items c.into_parts-clerks.result.0.items made.parts.items c.into_parts-clerks.result.1.items c.into_parts-clerks.ensures.clerks c.into_parts-clerks.ensures.parts c.in-Ok.ensures.clerks c.in-Ok.ensures.passes c.reach_all-end.ensures.alone

pub returns-clause-reached : goal.returns-clause-reached
returns-clause-reached g c =
    let lock_of : SharedClerk g.row.N-Link.Denot g.row.N-Link-Bell.Denot → TracedLock (Node g.row.N-Link.Denot) Step = λ k. k.lock in
    let pass_of : Part g.row.N-Link.Denot g.row.N-Link-Bell.Denot → Pass (Node g.row.N-Link.Denot) Step = λ p. p.pass in
    let before : NetSeen = record { faults = g.N.Net.faults c.args.net.now; bad = g.N.Net.bad c.args.net.now; ended = g.N.Net.ended c.args.net.now } in
    let now : NetSeen = record { faults = g.N.Net.faults c.reach_all-end.new.net; bad = g.N.Net.bad c.reach_all-end.new.net; ended = g.N.Net.ended c.reach_all-end.new.net } in
    let volumes = c.args.volumes.now in
    let made = c.in-Ok.mounts in
    subst (λ l. ReachedUpTo g.N.Link.Link.given g.N.Link.Link.got volumes.clerk volumes.boot (length volumes.words.now) before now l c.reach_all-end.result)
    (sym (locks_same lock_of pass_of c.reach_all-end.new.list.items made.clerks.items c.into_parts-clerks.result.0.items made.parts.items c.into_parts-clerks.result.1.items c.into_parts-clerks.ensures.clerks c.into_parts-clerks.ensures.parts c.in-Ok.ensures.clerks c.in-Ok.ensures.passes)) c.reach_all-end.ensures.reached
