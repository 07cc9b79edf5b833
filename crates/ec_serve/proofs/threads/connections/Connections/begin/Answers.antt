use Rattle.ec_serve.proofs.OfThreads.Goes.{knows_same}
use Rattle.ec_serve.proofs.threads.connections.Connections.begin.Goals as goal

pub returns-then-is_over-clause-knows : goal.returns-then-is_over-clause-knows
returns-then-is_over-clause-knows g c = knows_same c.args.pass.now.pass
