use Rattle.std.proofs.Common.{}
use Rattle.ec_world.proofs.Unread.{unread_in, counted_as, wants_not_fails}
use Rattle.ec_world.proofs.opening.store_on.Goals as goal

pub returns-in-Failed-clause-counts : goal.returns-in-Failed-clause-counts
returns-in-Failed-clause-counts g c = counted_as _ _ _ _ _ c.len.ensures.counts (λ h. c.in-Failed.is)

pub returns-in-Stopped-clause-counts : goal.returns-in-Stopped-clause-counts
returns-in-Stopped-clause-counts g c = counted_as _ _ _ _ _ c.len.ensures.counts (λ h. absurd (wants_not_fails _ h))

pub returns-clause-err : goal.returns-clause-err
returns-clause-err g c =
    unread_in c.read_back.result g.D.Disk.tells (g.D.Disk.view c.args.disk.now).gives (g.D.Disk.view c.len.new.self).gives (g.D.Disk.view c.read_back.new.disk).gives (λ told. (c.len.ensures.rests told).gives) c.read_back.ensures.err
