use Rattle.std.proofs.Common.{◌≡◌, ap, sym, ◌∙◌, Ok}
use Rattle.ec_durable.specs.Durable.{slot}
use Rattle.ec_durable.specs.declared.state.Durable.{Durable}
use Rattle.ec_sessions.specs.Slots as slots
use Rattle.ec_server.specs.Servers.{standing}
use Rattle.ec_store.specs.Store.{view_of}
use Rattle.ec_world.proofs.FirstSteps.{ends_nothing, ends_ok, ends_held, ends_err, ends_failed}
use Rattle.ec_world.proofs.Unread.{counted_as, counted_none, ok_err, wants_not_fails}
use Rattle.ec_world.proofs.opening.end_open.Goals as goal

pub returns-then-not-is_open-clause-ok : goal.returns-then-not-is_open-clause-ok
returns-then-not-is_open-clause-ok g c =
    ends_nothing c.args.clerk (standing (view_of c.args.store.now) c.args.server.now) c.args.records.now.items
    (ap (λ (d : Durable). slots.is_open (slot d c.args.clerk)) (sym c.view.ensures.value) ∙ sym c.if-not-is_open.ensures)

pub returns-then-not-is_open-clause-counts : goal.returns-then-not-is_open-clause-counts
returns-then-not-is_open-clause-counts g c = counted_none _ _ (λ h. ok_err _ _ _ _ h)

pub returns-in-Err-clause-counts : goal.returns-in-Err-clause-counts
returns-in-Err-clause-counts g c = counted_as _ _ _ _ _ c.end.ensures.counts (λ h. absurd (wants_not_fails _ h))

pub returns-clause-ok : goal.returns-clause-ok
returns-clause-ok g c =
    ends_ok c.args.clerk (standing (view_of c.args.store.now) c.args.server.now) g.D.Disk.tells (view_of c.args.store.now) c.args.records.now.items c.keep_records.new.records.items
    c.end.new.server c.end.new.store (g.D.Disk.view c.end.new.disk) c.keep_records.result c.in-Ok.came
    (ap (λ (d : Durable). slots.is_open (slot d c.args.clerk)) (sym c.view.ensures.value) ∙ sym c.if-not-is_open.ensures) c.in-Ok.ensures.came c.keep_records.ensures

pub returns-clause-held : goal.returns-clause-held
returns-clause-held g c =
    ends_held c.args.clerk (standing (view_of c.args.store.now) c.args.server.now) g.D.Disk.tells (view_of c.args.store.now) c.args.records.now.items c.keep_records.new.records.items
    c.end.new.server c.end.new.store (g.D.Disk.view c.end.new.disk) c.keep_records.result c.in-Ok.came c.in-Ok.ensures.came c.keep_records.ensures

pub returns-clause-err : goal.returns-clause-err
returns-clause-err g c = ends_err c.args.records.now.items c.keep_records.new.records.items c.keep_records.result c.in-Ok.came c.keep_records.ensures

pub returns-clause-counts : goal.returns-clause-counts
returns-clause-counts g c = counted_as _ _ _ _ _ c.end.ensures.counts (λ h. c.in-Ok.is ∙ ap Ok (ends_failed c.args.records.now.items c.keep_records.new.records.items c.keep_records.result c.in-Ok.came c.keep_records.ensures h))
