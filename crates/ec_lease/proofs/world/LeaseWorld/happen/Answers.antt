use Rattle.ec_lease_machine.specs.declared.world.LeaseEvent.TheVariants as lease_event
use Rattle.ec_lease.proofs.Counting.{hand_counts}
use Rattle.ec_lease.proofs.Happening.{all_renewed, comes_as, fresh_still, granted, handed, skews_on, ticks_on, told_ok}
use Rattle.ec_lease.proofs.world.LeaseWorld.happen.Goals as goal

pub returns-in-World-clause-comes : goal.returns-in-World-clause-comes
returns-in-World-clause-comes g c =
    comes_as c.event_happens.result g.D.Disk.tells (g.D.Disk.view c.event_happens.new.disk) (g.D.Disk.counts c.args.disk.now) (g.D.Disk.counts c.event_happens.new.disk) c.args.event (lease_event.World c.in-World.event) c.args.self.now c.event_happens.new.self
    c.in-World.is c.event_happens.ensures.comes

pub returns-in-Tick-clause-comes : goal.returns-in-Tick-clause-comes
returns-in-Tick-clause-comes g c =
    ticks_on _ g.D.Disk.tells (g.D.Disk.view c.args.disk.now) (g.D.Disk.counts c.args.disk.now) c.args.event c.in-Tick.ticks c.args.self.now c.tick.new.self c.in-Tick.is c.tick.ensures c.requires.piece c.requires.in_step tt

pub returns-in-Skew-clause-comes : goal.returns-in-Skew-clause-comes
returns-in-Skew-clause-comes g c =
    skews_on c.told.result g.D.Disk.tells (g.D.Disk.view c.args.disk.now) (g.D.Disk.counts c.args.disk.now) c.args.event c.in-Skew.clerk c.in-Skew.skew c.args.self.now c.set_skew.new.self c.in-Skew.is
    (told_ok c.told.result c.set_skew.result _ c.told.ensures.ok c.set_skew.ensures) c.requires.piece c.requires.in_step c.told.ensures.err

pub returns-in-Grant-clause-comes : goal.returns-in-Grant-clause-comes
returns-in-Grant-clause-comes g c =
    granted c.grant.result g.D.Disk.tells (g.D.Disk.view c.args.disk.now) (g.D.Disk.counts c.args.disk.now) c.args.event c.in-Grant.clerk c.args.self.now c.grant.new.self c.in-Grant.is
    c.grant.ensures.ok c.grant.ensures.same c.requires.in_step c.grant.ensures.err

pub returns-in-Hand-clause-comes : goal.returns-in-Hand-clause-comes
returns-in-Hand-clause-comes g c =
    handed c.hand.result g.D.Disk.tells (g.D.Disk.view c.args.disk.now) (g.D.Disk.counts c.args.disk.now) c.args.event c.in-Hand.clerk c.in-Hand.nth c.args.self.now c.hand.new.self c.in-Hand.is
    c.hand.ensures.ok c.hand.ensures.same c.requires.in_step c.hand.ensures.err

pub returns-in-Renew-clause-comes : goal.returns-in-Renew-clause-comes
returns-in-Renew-clause-comes g c =
    all_renewed c.told-in-Renew.result g.D.Disk.tells (g.D.Disk.view c.args.disk.now) (g.D.Disk.counts c.args.disk.now) c.args.event c.args.self.now c.renew.new.self c.in-Renew.is
    (told_ok c.told-in-Renew.result c.renew.result _ c.told-in-Renew.ensures.ok c.renew.ensures.ok) c.renew.ensures.world (fresh_still c.args.self.now c.renew.new.self c.renew.ensures.piece c.requires.piece) c.requires.in_step c.told-in-Renew.ensures.err

pub returns-in-Hand-clause-counts : goal.returns-in-Hand-clause-counts
returns-in-Hand-clause-counts g c = hand_counts c.hand.result c.args.event c.in-Hand.clerk c.in-Hand.nth (g.D.Disk.counts c.args.disk.now) _ c.in-Hand.is c.hand.ensures.faults
