-- At the end of a step each waiting call has its line.
use Rattle.ec_lawful.proofs.lawful.steps_end_with_their_lines.Goals as goal
use Rattle.ec_lawful.proofs.LinesLeft.{lines-at-end}

pub returns : goal.returns
returns z h c b e δ t known = lines-at-end h c b e δ t known
