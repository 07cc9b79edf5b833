use Rattle.std.proofs.Common.{◌≡◌, ◌∙◌, length, map, refl, sym, subst, arith}
use Rattle.std.specs.Vec.{with_items}
use Rattle.std.proofs.lemmas.List.{length-map, with_items_is}
use Rattle.ec_lock.specs.declared.types.Pass.{Pass}
use Rattle.ec_lock.specs.declared.types.TracedLock.{TracedLock}
use Rattle.ec_clerknode.specs.declared.shared.SharedClerk.{SharedClerk}
use Rattle.ec_clerknode.specs.declared.state.Node.{Node}
use Rattle.ec_clerknode.specs.declared.step.Step.{Step}
use Rattle.ec_clerknode.specs.LaneRuns.{lists_of}
use Rattle.ec_mount.specs.Run.{NetSeen}
use Rattle.ec_mounts.specs.declared.part.Part.{Part}
use Rattle.ec_mounts.specs.Mounts.{AreSeated}
use Rattle.ec_mounts.proofs.Seats.{same_length}
use Rattle.ec_mount_table.specs.Going.{MadeAll, items_of}
use Rattle.ec_mount_table.proofs.Working.{concluded, done_as, hold_fresh, if_some, works_made}
use Rattle.ec_mount_table.proofs.work.work_over.Goals as goal

pub make_all-made-requires-clause-many : goal.make_all-made-requires-clause-many
make_all-made-requires-clause-many g c κs within = rw c.deref_mut.ensures.value c.requires.many

pub make_all-made-requires-clause-seated : goal.make_all-made-requires-clause-seated
make_all-made-requires-clause-seated g c κs within = rw (c.deref.ensures.value, c.deref_mut.ensures.value) c.requires.seated

pub make_all-made-requires-clause-fresh : goal.make_all-made-requires-clause-fresh
make_all-made-requires-clause-fresh g c κs within =
    let pass_of : Part g.row.N-Link.Denot g.row.N-Link-Bell.Denot → Pass (Node g.row.N-Link.Denot) Step = λ p. p.pass in
    rw c.deref_mut.ensures.value (hold_fresh (map pass_of c.args.parts.items) c.requires.fresh)

pub end_all-ends-requires-clause-seated : goal.end_all-ends-requires-clause-seated
end_all-ends-requires-clause-seated g c κs within =
    let lock_of : SharedClerk g.row.N-Link.Denot g.row.N-Link-Bell.Denot → TracedLock (Node g.row.N-Link.Denot) Step = λ k. k.lock in
    let pass_of : Part g.row.N-Link.Denot g.row.N-Link-Bell.Denot → Pass (Node g.row.N-Link.Denot) Step = λ p. p.pass in
    let news = c.make_all-made.new.parts in
    let back = with_items_is c.args.parts news (c.make_all-made.auto.parts ∙ c.deref_mut.ensures.len) in
    subst (λ l. AreSeated (map lock_of c.args.clerks.items) (map pass_of l)) (sym back) (rw c.deref.ensures.value at c.make_all-made.ensures.seated)

pub returns-clause-works : goal.returns-clause-works
returns-clause-works g c = λ id was before r.
    let lock_of : SharedClerk g.row.N-Link.Denot g.row.N-Link-Bell.Denot → TracedLock (Node g.row.N-Link.Denot) Step = λ k. k.lock in
    let pass_of : Part g.row.N-Link.Denot g.row.N-Link-Bell.Denot → Pass (Node g.row.N-Link.Denot) Step = λ p. p.pass in
    let table = c.args.table.now in
    let rows = c.args.rows.now in
    let made = c.make_all-made.result in
    let clerks = c.args.clerks.items in
    let locks = map lock_of clerks in
    let news = c.make_all-made.new.parts in
    let back = with_items_is c.args.parts news (c.make_all-made.auto.parts ∙ c.deref_mut.ensures.len) in
    let passes = map pass_of (with_items c.args.parts news).items in
    let now : NetSeen = record { faults = g.N.Net.faults c.args.net.now; bad = g.N.Net.bad c.args.net.now; ended = g.N.Net.ended c.args.net.now } in
    let after : NetSeen = record { faults = g.N.Net.faults c.end_all-ends.new.net; bad = g.N.Net.bad c.end_all-ends.new.net; ended = g.N.Net.ended c.end_all-ends.new.net } in
    let many : length locks ≡ length table = length-map clerks lock_of ∙ (sym (same_length lock_of pass_of clerks c.args.parts.items c.requires.seated) ∙ c.requires.many) in
    let all : MadeAll table rows made.mets.items made.replies.items passes (items_of made.last) = subst (λ l. MadeAll table rows made.mets.items made.replies.items (map pass_of l) (items_of made.last)) (sym back) c.make_all-made.ensures.made in
    concluded id was table rows before after made.mets.items made.replies.items made.last c.end_all-ends.result c.conclude.result c.conclude.ensures
    (if_some _ _ c.end_all-ends.result
    (λ a e. works_made g.N.Link.Link.given g.N.Link.Link.got id was (length table) before now after locks passes (lists_of a.told) a.boot a.fault c.is_ok-is_done.result r e (omega (arith, many)) table rows many refl
    made.mets.items made.replies.items (items_of made.last) (done_as made.last c.is_ok-is_done.result c.is_ok-is_done.ensures.value) all)
    c.end_all-ends.ensures.ended)
