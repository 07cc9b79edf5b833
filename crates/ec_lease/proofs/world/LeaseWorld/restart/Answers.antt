use Rattle.std.proofs.Common.{sym, ap, ◌∙◌}
use Rattle.std.specs.List.{list_any}
use Rattle.ec_lease_machine.specs.Leases.{is_started}
use Rattle.ec_lease.specs.Worlds.{leased}
use Rattle.ec_lease.proofs.Clocks.{open_stays, still_clock}
use Rattle.ec_lease.proofs.Happening.{keeps, restarts, told_ok}
use Rattle.ec_lease.proofs.Noting.{noted}
use Rattle.ec_lease.proofs.world.LeaseWorld.restart.Goals as goal

pub returns-clause-comes : goal.returns-clause-comes
returns-clause-comes g c =
    let x = c.args.self.now in
    let mid = c.world_happens.new.self in
    let y = c.note_open.new.self in
    let started = ap (list_any is_started) (sym c.deref.ensures.value) ∙ sym c.shows_start.ensures ∙ c.if-not-shows_start.false in
    let noted_open = told_ok c.told.result c.note_open.result _ c.told.ensures.ok c.note_open.ensures.ok in
    restarts c.told.result c.in_ok-world_happens.field-0 g.D.Disk.tells (g.D.Disk.view c.world_happens.new.disk) (g.D.Disk.counts c.args.disk.now) (g.D.Disk.counts c.world_happens.new.disk) x mid y
    c.in_ok-world_happens.ensures.comes (noted c.told.result mid y started c.note_open.ensures.piece noted_open) (still_clock c.told.result (leased mid) _ y noted_open (open_stays (leased mid).world.server (leased mid))) (keeps mid y c.note_open.ensures.world) c.told.ensures.err
