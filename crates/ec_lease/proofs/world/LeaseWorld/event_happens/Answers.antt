use Rattle.std.proofs.Common.{sym, ◌∙◌}
use Rattle.ec_protocol.specs.declared.world.Event.TheVariants as event
use Rattle.ec_lease.proofs.Comes.{comes_to}
use Rattle.ec_lease.proofs.Happening.{call_waits, message_stays}
use Rattle.ec_lease.proofs.world.LeaseWorld.event_happens.Goals as goal

pub returns-then-is_held-clause-comes : goal.returns-then-is_held-clause-comes
returns-then-is_held-clause-comes g c =
    call_waits c.queue.result g.D.Disk.tells (g.D.Disk.view c.args.disk.now) (g.D.Disk.counts c.args.disk.now) c.args.event c.in-Call.clerk c.in-Call.line c.in-Call.call c.args.self.now c.queue.new.self
    c.in-Call.is (sym c.is_held.ensures ∙ c.if-is_held.true) c.queue.ensures.ok c.queue.ensures.err c.queue.ensures.same c.requires.in_step

pub returns-then-is_kept-clause-comes : goal.returns-then-is_kept-clause-comes
returns-then-is_kept-clause-comes g c =
    message_stays c.nothing.result g.D.Disk.tells (g.D.Disk.view c.args.disk.now) (g.D.Disk.counts c.args.disk.now) c.args.event c.in-Deliver.number c.args.self.now c.nothing.new.self
    c.in-Deliver.is (sym c.is_kept.ensures ∙ c.if-is_kept.true) c.nothing.ensures.ok c.nothing.ensures.err c.nothing.ensures.same c.requires.in_step

pub returns-in-End-clause-comes : goal.returns-in-End-clause-comes
returns-in-End-clause-comes g c =
    comes_to c.end.result g.D.Disk.tells (g.D.Disk.view c.end.new.disk) (g.D.Disk.counts c.args.disk.now) (g.D.Disk.counts c.end.new.disk) c.args.event (event.End c.in-End.clerk) c.args.self.now c.end.new.self c.in-End.is c.end.ensures.comes

pub returns-in-Restart-clause-comes : goal.returns-in-Restart-clause-comes
returns-in-Restart-clause-comes g c =
    comes_to c.restart.result g.D.Disk.tells (g.D.Disk.view c.restart.new.disk) (g.D.Disk.counts c.args.disk.now) (g.D.Disk.counts c.restart.new.disk) c.args.event event.Restart c.args.self.now c.restart.new.self c.in-Restart.is c.restart.ensures.comes
