use Rattle.ec_quiet.proofs.Stepping.{called-on}
use Rattle.ec_quiet.proofs.line_scenes.calls_are_carried_out.Goals as goal

pub returns : goal.returns
returns c w sc a line cl k i there unspent = called-on w sc a line cl k i there unspent
