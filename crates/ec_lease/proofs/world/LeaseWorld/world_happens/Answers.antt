use Rattle.std.proofs.Common.{refl}
use Rattle.ec_world.specs.StepEnds.{behind_arm}
use Rattle.ec_lease.proofs.Comes.{world_refuses, world_steps}
use Rattle.ec_lease.proofs.Counting.{counts_behind, counts_refused, never_fails}
use Rattle.ec_lease.proofs.world.LeaseWorld.world_happens.Goals as goal

pub returns-in-Ok-clause-comes : goal.returns-in-Ok-clause-comes
returns-in-Ok-clause-comes g c =
    world_steps c.show_all.result g.D.Disk.tells (g.D.Disk.view c.step.new.disk) (behind_arm c.args.event (g.D.Disk.counts c.args.disk.now)) (g.D.Disk.counts c.step.new.disk) c.args.event c.args.self.now c.step.new.self c.in-Ok.lines.items c.show_all.new.self
    c.in-Ok.ensures.ok c.in-Ok.ensures.in_step c.show_all.ensures.world c.show_all.ensures.book c.requires.piece c.show_all.ensures.piece c.show_all.ensures.err

pub returns-in-Ok-clause-counts : goal.returns-in-Ok-clause-counts
returns-in-Ok-clause-counts g c =
    counts_behind c.step.result c.show_all.result c.args.event (g.D.Disk.counts c.args.disk.now) (g.D.Disk.counts c.step.new.disk) (λ failed. absurd (never_fails c.show_all.result c.show_all.ensures.err failed)) (λ wants. cc) c.step.ensures.counts

pub returns-in-Err-clause-comes : goal.returns-in-Err-clause-comes
returns-in-Err-clause-comes g c =
    world_refuses c.of_world.result c.in-Err.fault g.D.Disk.tells (g.D.Disk.view c.step.new.disk) (behind_arm c.args.event (g.D.Disk.counts c.args.disk.now)) (g.D.Disk.counts c.step.new.disk) c.args.event c.args.self.now (record c.args.self.now { world = c.step.new.self })
    c.of_world.ensures c.in-Err.ensures.err refl c.requires.piece

pub returns-in-Err-clause-counts : goal.returns-in-Err-clause-counts
returns-in-Err-clause-counts g c =
    counts_refused _ _ c.in-Err.fault c.of_world.result c.args.event (g.D.Disk.counts c.args.disk.now) (g.D.Disk.counts c.step.new.disk) c.of_world.ensures c.in-Err.ensures.counts
