use Rattle.ec_history.proofs.OfLaws.ForPlacing.Cuts.{legal-step, legal-append, legal-split}
use Rattle.ec_history.proofs.laws.append.longer_history_is_legal.Goals as goal

pub returns-clause-one_more : goal.returns-clause-one_more
returns-clause-one_more c = legal-step

pub returns-clause-more : goal.returns-clause-more
returns-clause-more c = legal-append

pub returns-clause-cut : goal.returns-clause-cut
returns-clause-cut c = legal-split
