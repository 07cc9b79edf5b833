use Rattle.ec_quiet.proofs.OfDeliveries.Ended.{line-settles-or-ends}
use Rattle.ec_quiet.proofs.deliveries.line_runs.lines_settle_or_end.Goals as goal

pub returns : goal.returns
returns z j k most m sc can f shown i first few rows unsent room = line-settles-or-ends j k most m sc can f shown i first few rows unsent room
