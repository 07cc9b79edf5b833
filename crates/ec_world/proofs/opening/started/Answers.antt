use Rattle.std.proofs.Common.{ap, sym, ◌∙◌, Ok}
use Rattle.ec_store.specs.Store.{view_of}
use Rattle.ec_world.proofs.FirstSteps.{begins_ok, begins_held, begins_stands, begins_err, begins_failed, not_started}
use Rattle.ec_world.proofs.Unread.{counted_as, spends_not_fails}
use Rattle.ec_world.proofs.opening.started.Goals as goal

pub returns-in-Err-clause-err : goal.returns-in-Err-clause-err
returns-in-Err-clause-err g c = not_started g.D.Disk.tells c.args.store.now c.start.new.store (g.D.Disk.view c.start.new.disk) c.in-Err.counter c.in-Err.ensures.spent

pub returns-in-Err-clause-counts : goal.returns-in-Err-clause-counts
returns-in-Err-clause-counts g c = counted_as _ _ _ _ _ c.start.ensures.counts (λ h. absurd (spends_not_fails _ _ h))

pub returns-clause-ok : goal.returns-clause-ok
returns-clause-ok g c = begins_ok g.D.Disk.tells (view_of c.args.store.now) _ c.start.new.store (g.D.Disk.view c.start.new.disk) c.begun.result c.in-Ok.came c.new.ensures c.in-Ok.ensures.came c.begun.ensures

pub returns-clause-held : goal.returns-clause-held
returns-clause-held g c = begins_held g.D.Disk.tells (view_of c.args.store.now) _ c.start.new.store (g.D.Disk.view c.start.new.disk) c.begun.result c.in-Ok.came c.in-Ok.ensures.came c.begun.ensures

pub returns-clause-stands : goal.returns-clause-stands
returns-clause-stands g c = begins_stands (view_of c.start.new.store) c.begun.result c.in-Ok.came c.in-Ok.ensures.stands c.begun.ensures

pub returns-clause-err : goal.returns-clause-err
returns-clause-err g c = begins_err g.D.Disk.tells (g.D.Disk.view c.start.new.disk).may_leave (view_of c.args.store.now) c.begun.result c.in-Ok.came c.begun.ensures

pub returns-clause-counts : goal.returns-clause-counts
returns-clause-counts g c = counted_as _ _ _ _ _ c.start.ensures.counts (λ h. c.in-Ok.is ∙ ap Ok (begins_failed c.begun.result c.in-Ok.came c.begun.ensures h))
