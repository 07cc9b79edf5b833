use Rattle.std.proofs.Common.{None}
use Rattle.ec_machine_laws.proofs.OfNodeLaws.Answered.{begin-own, push-own, resend-own, start-own, takes-pass}
use Rattle.ec_machine_laws.proofs.node_laws.clerks_pass_refusals_on.Goals as goal

pub returns-clause-takes : goal.returns-clause-takes
returns-clause-takes c = takes-pass

pub returns-clause-begins : goal.returns-clause-begins
returns-clause-begins c = begin-own None

pub returns-clause-pushes : goal.returns-clause-pushes
returns-clause-pushes c = push-own None

pub returns-clause-resends : goal.returns-clause-resends
returns-clause-resends c = resend-own None

pub returns-clause-starts : goal.returns-clause-starts
returns-clause-starts c = start-own None
