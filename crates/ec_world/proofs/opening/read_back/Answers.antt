use Rattle.std.proofs.Common.{ap, ◌∙◌, Err}
use Rattle.ec_world.proofs.Unread.{unread, counted_as, ok_err, failed_err}
use Rattle.ec_world.proofs.opening.read_back.Goals as goal

pub returns-in-Ok-clause-counts : goal.returns-in-Ok-clause-counts
returns-in-Ok-clause-counts g c = counted_as _ _ _ _ _ c.in-Ok.ensures.counts (λ h. absurd (ok_err _ _ _ _ h))

pub returns-in-Err-clause-err : goal.returns-in-Err-clause-err
returns-in-Err-clause-err g c =
    unread c.in-Err.fault c.fault_of.result g.D.Disk.tells (g.D.Disk.view c.args.disk.now).gives (g.D.Disk.view c.open.new.disk).gives c.fault_of.ensures
    (λ place e told. (c.requires.full told, c.open.ensures.bad place (c.in-Err.is ∙ ap Err e) told, c.open.ensures.unchanged place (c.in-Err.is ∙ ap Err e) told))

pub returns-in-Err-clause-counts : goal.returns-in-Err-clause-counts
returns-in-Err-clause-counts g c = counted_as _ _ _ _ _ c.in-Err.ensures.counts (failed_err c.in-Err.fault c.fault_of.result c.fault_of.ensures)
