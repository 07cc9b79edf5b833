use Rattle.ec_complete.proofs.ForLines.Given.{ids-stay-given}
use Rattle.ec_complete.proofs.line_counts.ids_stay_given.Goals as goal

pub returns : goal.returns
returns c = ids-stay-given
