use Rattle.ec_history.proofs.OfLaws.ForRenamed.Calls.{plain-by}
use Rattle.ec_history.proofs.laws.renamed_volumes.renamed_calls_come_to_the_same.Goals as goal

pub returns : goal.returns
returns c = λ r v w cl fresh ren same. plain-by r ren v w same cl fresh
