use Rattle.ec_quiet.proofs.OfDeliveries.Working.{working-moves, working-stays, wanting-stays}
use Rattle.ec_quiet.proofs.deliveries.work.clerks_at_work_stay_at_work.Goals as goal

pub returns-clause-moved : goal.returns-clause-moved
returns-clause-moved c = λ xs ys j sc w mail sl sm k wider move keeps. working-moves xs ys j sc w mail wider sl sm move keeps k

pub returns-clause-working : goal.returns-clause-working
returns-clause-working c = λ xs ys j sc w mail sl k wider like keeps. working-stays xs ys j sc w mail wider like keeps sl k

pub returns-clause-wanting : goal.returns-clause-wanting
returns-clause-wanting c = λ xs ys j sc w mail x h n wider like keeps. wanting-stays xs ys j sc w mail wider like keeps x h n
