use Rattle.ec_serve.proofs.OfThreads.Goes.{knows_same}
use Rattle.ec_serve.proofs.threads.threads.start_warden.Goals as goal

pub returns-then-connections-eq0-clause-knows : goal.returns-then-connections-eq0-clause-knows
returns-then-connections-eq0-clause-knows g c = knows_same c.args.pass.now.pass

pub returns-in_default-clause-knows : goal.returns-in_default-clause-knows
returns-in_default-clause-knows g c = knows_same c.args.pass.now.pass
