use Rattle.std.proofs.Common.{Err, refl}
use Rattle.ec_lease.proofs.Counting.{counts_handed, counts_ok}
use Rattle.ec_lease.proofs.world.LeaseWorld.step.Goals as goal

pub returns-in-Ok-clause-counts : goal.returns-in-Ok-clause-counts
returns-in-Ok-clause-counts g c = counts_ok c.proceed.result c.in-Ok.field-0 c.replace.result c.args.event (g.D.Disk.counts c.args.disk.now) (g.D.Disk.counts c.proceed.new.disk) c.in-Ok.is c.proceed.ensures.counts

pub returns-in-Err-clause-counts : goal.returns-in-Err-clause-counts
returns-in-Err-clause-counts g c =
    counts_handed c.proceed.result (Err c.in-Err.fault) c.in-Err.fault c.args.event (g.D.Disk.counts c.args.disk.now) (g.D.Disk.counts c.proceed.new.disk) c.in-Err.is refl c.proceed.ensures.counts
