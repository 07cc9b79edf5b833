use Rattle.ec_lawful.proofs.ForAsked.FreshAnswered.{answers-fresh}
use Rattle.ec_lawful.proofs.ForWhole.FreshBegins.{begins-fresh}
use Rattle.ec_lawful.proofs.ForWhole.Goes.{goes-fresh}
use Rattle.ec_lawful.proofs.fresh.ids_stay_fresh.Goals as goal

pub returns-clause-begin : goal.returns-clause-begin
returns-clause-begin z = begins-fresh

pub returns-clause-quiet : goal.returns-clause-quiet
returns-clause-quiet z g h ls all now na go fa = goes-fresh g h all now na ls go fa

pub returns-clause-answers : goal.returns-clause-answers
returns-clause-answers z g h c b l cl a op x all now na zeros go fa = answers-fresh g h c b l cl a op x all now na zeros go fa
