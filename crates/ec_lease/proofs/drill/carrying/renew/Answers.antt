use Rattle.ec_lease_machine.specs.Leases.{step}
use Rattle.ec_lease_machine.specs.declared.world.LeaseEvent.TheVariants.{Renew}
use Rattle.ec_protocol.specs.World.{runs}
use Rattle.ec_lease.specs.Worlds.{leased}
use Rattle.ec_lease.specs.OfDrill.Steps.{fault_in}
use Rattle.ec_lease.proofs.OfDrill.Carried.{added}
use Rattle.ec_lease.proofs.drill.carrying.renew.Goals as goal

pub returns-clause-renewed : goal.returns-clause-renewed
returns-clause-renewed g c = λ goes clear.
    let x = leased c.args.world.now in
    let s = c.step.ensures.stepped.2 goes in
    added x (leased c.step.new.world) c.args.piece.now.items c.step.new.piece.items s.0 (step runs Renew x) (fault_in c.step.result) (s.2 clear) s.1
