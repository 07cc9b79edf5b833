use Rattle.std.proofs.Common.{rules}
use Rattle.ec_clerknode.proofs.Ends.{stops_marked}
use Rattle.ec_clerknode.proofs.state.State.ended.Goals as goal

pub returns-in-Some-marked-clause-ends : goal.returns-in-Some-marked-clause-ends
returns-in-Some-marked-clause-ends g c = stops_marked c.args.self.now.boot c.args.end c.args.marked c.in-Some-marked.fault c.requires (search rules) c.in-Some-marked.is
