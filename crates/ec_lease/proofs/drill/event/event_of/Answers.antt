use Rattle.std.proofs.Common.{ap}
use Rattle.ec_lease_machine.specs.declared.words.line.LeaseLine.{LeaseLine}
use Rattle.ec_lease_machine.specs.Drill.{line_happens}
use Rattle.ec_lease.specs.Worlds.{leased}
use Rattle.ec_lease.specs.OfDrill.Script.{machine_lease}
use Rattle.ec_lease.proofs.drill.event.event_of.Goals as goal

pub returns-in-Tick-clause-happens : goal.returns-in-Tick-clause-happens
returns-in-Tick-clause-happens c = λ fate. ap (λ (l : LeaseLine). line_happens fate c.args.number (machine_lease l) (leased c.args.world.now)) c.in-Tick.is

pub returns-in-Skew-clause-happens : goal.returns-in-Skew-clause-happens
returns-in-Skew-clause-happens c = λ fate. ap (λ (l : LeaseLine). line_happens fate c.args.number (machine_lease l) (leased c.args.world.now)) c.in-Skew.is

pub returns-in-Grant-clause-happens : goal.returns-in-Grant-clause-happens
returns-in-Grant-clause-happens c = λ fate. ap (λ (l : LeaseLine). line_happens fate c.args.number (machine_lease l) (leased c.args.world.now)) c.in-Grant.is

pub returns-in-Hand-clause-happens : goal.returns-in-Hand-clause-happens
returns-in-Hand-clause-happens c = λ fate. ap (λ (l : LeaseLine). line_happens fate c.args.number (machine_lease l) (leased c.args.world.now)) c.in-Hand.is
