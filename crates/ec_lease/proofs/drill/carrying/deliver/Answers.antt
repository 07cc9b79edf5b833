use Rattle.ec_lease.specs.Worlds.{leased}
use Rattle.ec_lease.specs.OfDrill.Steps.{fault_in}
use Rattle.ec_lease.proofs.OfDrill.Carried.{delivered_not, delivered_on}
use Rattle.ec_lease.proofs.OfDrill.Known.{clear_first, clear_later, later_then, ran_first}
use Rattle.ec_lease.proofs.drill.carrying.deliver.Goals as goal

pub returns-in-Err-clause-delivered : goal.returns-in-Err-clause-delivered
returns-in-Err-clause-delivered g c =
    let s = c.in-Err.ensures.stepped in (
      s.0,
      s.1,
      λ goes clear.
          let l = s.2 goes in
          delivered_not s.0 c.args.number (leased c.args.world.now) (leased c.step.new.world) c.args.piece.now.items c.step.new.piece.items l.0 c.in-Err.fault (l.2 clear) l.1,
    )

pub returns-clause-delivered : goal.returns-clause-delivered
returns-clause-delivered g c =
    let tells = g.D.Disk.tells in
    let a = (g.D.Disk.counts c.args.disk.now).stops in
    let b = (g.D.Disk.counts c.step.new.disk).stops in
    let d = (g.D.Disk.counts c.renew.new.disk).stops in
    let s = c.in_default.ensures.stepped in (
      s.0,
      ran_first s.0 a b d c.renew.ensures.counts.stops s.1,
      λ goes clear.
          let l = s.2 tt in
          delivered_on s.0 c.args.number (leased c.args.world.now) (leased c.step.new.world) (leased c.renew.new.world) c.args.piece.now.items c.step.new.piece.items c.renew.new.piece.items l.0 (fault_in c.renew.result)
          (l.2 (clear_first tells a b d c.renew.ensures.counts.stops clear)) l.1 (c.renew.ensures.renewed goes (clear_later tells a b d c.in_default.ensures.counts.stops clear)),
    )

pub returns-clause-counts : goal.returns-clause-counts
returns-clause-counts g c = later_then _ _ _ _ _ c.in_default.ensures.counts c.renew.ensures.counts
