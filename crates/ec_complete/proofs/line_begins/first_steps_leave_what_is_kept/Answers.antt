use Rattle.ec_complete.proofs.ForLines.Kept.{first-steps-leave}
use Rattle.ec_complete.proofs.line_begins.first_steps_leave_what_is_kept.Goals as goal

pub returns : goal.returns
returns c = first-steps-leave
