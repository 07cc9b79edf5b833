use Rattle.std.proofs.Common.{subst}
use Rattle.std.specs.Prelude.{Option}
use Rattle.ec_lease_machine.specs.declared.world.LeaseEvent.{LeaseEvent}
use Rattle.ec_lease.specs.Worlds.{leased}
use Rattle.ec_lease.specs.OfDrill.Script.{machine_lease}
use Rattle.ec_lease.specs.OfDrill.Steps.{MayFollow}
use Rattle.ec_lease.proofs.OfDrill.Known.{advances_so, later_still, none_fails}
use Rattle.ec_lease.proofs.drill.carrying.begin.Goals as goal

pub step-requires-clause-may : goal.step-requires-clause-may
step-requires-clause-may g c =
    let may = subst (λ (o : Option LeaseEvent). MayFollow (leased c.args.world.now) (machine_lease c.args.line) o) c.in-Ok-Some.field-0-is c.in-Ok-Some.ensures.may in
    may c.args.number c.ranges.number.fits c.requires.timed c.requires.early

pub returns-in-Ok-Some-clause-time : goal.returns-in-Ok-Some-clause-time
returns-in-Ok-Some-clause-time g c =
    let may = subst (λ (o : Option LeaseEvent). MayFollow (leased c.args.world.now) (machine_lease c.args.line) o) c.in-Ok-Some.field-0-is c.in-Ok-Some.ensures.may in
    advances_so c.step.result c.in-Ok-Some.event (leased c.args.world.now) (leased c.step.new.world) (may c.args.number c.ranges.number.fits c.requires.timed c.requires.early) c.step.ensures.time

pub returns-in-Err-clause-counts : goal.returns-in-Err-clause-counts
returns-in-Err-clause-counts g c = later_still (g.D.Disk.counts c.args.disk.now) _ (none_fails c.in-Err.fault c.in-Err.ensures.none)
