use Rattle.ec_quiet.proofs.OfDeliveries.Lines.{line-settles}
use Rattle.ec_quiet.proofs.deliveries.line_runs.lines_settle.Goals as goal

pub returns : goal.returns
returns z j k most m sc can f shown i first few rows unsent room = line-settles j k most m sc can f shown i first few rows unsent room
