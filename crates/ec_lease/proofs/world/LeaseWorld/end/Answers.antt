use Rattle.std.proofs.Common.{sym, ◌∙◌, arith}
use Rattle.ec_protocol.specs.Resumes.{open_session}
use Rattle.ec_lease_machine.specs.Leases.{ends_at}
use Rattle.ec_base.proofs.Numbers.{is-less, not-under}
use Rattle.ec_lease.specs.Worlds.{leased}
use Rattle.ec_lease.proofs.Happening.{nothing_holds, session_is_held, session_may_end}
use Rattle.ec_lease.proofs.world.LeaseWorld.end.Goals.{in_default-via-in-Some+else-now-moment, in_default-via-in_default}
use Rattle.ec_lease.proofs.world.LeaseWorld.end.Goals as goal

pub returns-in-Some-clause-comes : goal.returns-in-Some-clause-comes
returns-in-Some-clause-comes g c =
    let x = c.args.self.now in
    let o = ends_at c.args.clerk (open_session c.args.clerk (leased x).world) (leased x) in
    session_is_held c.show.result g.D.Disk.tells (g.D.Disk.view c.args.disk.now) (g.D.Disk.counts c.args.disk.now) c.args.clerk c.in-Some.moment o x c.show.new.self
    (sym c.in-Some.ensures) (is-less (leased x).now c.in-Some.moment (omega (arith, c.now.ensures, c.if-now-moment.true))) c.requires.piece c.show.ensures.world c.show.ensures.book c.show.ensures.piece c.show.ensures.err c.requires.in_step

pub returns-in_default-clause-comes : goal.returns-in_default-clause-comes
returns-in_default-clause-comes g c =
    let x = c.args.self.now in
    let o = ends_at c.args.clerk (open_session c.args.clerk (leased x).world) (leased x) in
    let r = c.world_happens.result in
    let before = g.D.Disk.counts c.args.disk.now in
    let behind = g.D.Disk.counts c.world_happens.new.disk in
    let now = g.D.Disk.view c.world_happens.new.disk in
    let y = c.world_happens.new.self in
    elim c.in_default.branch [
      | in_default-via-in-Some+else-now-moment w ↦ session_may_end r g.D.Disk.tells now before behind c.args.clerk w.in-Some.moment o x y (sym w.in-Some.ensures) (not-under (leased x).now w.in-Some.moment (omega (arith, w.now.ensures, w.if-now-moment.false))) c.world_happens.ensures.comes
      | in_default-via-in_default w ↦ nothing_holds r g.D.Disk.tells now before behind c.args.clerk o x y (sym c.ends_at.ensures ∙ w.in_default.is) c.world_happens.ensures.comes
    ]
