use Rattle.ec_complete.proofs.ForLines.Delivering.{lines-leave-kept}
use Rattle.ec_complete.proofs.line_steps.lines_leave_what_is_kept.Goals as goal

pub returns : goal.returns
returns c = lines-leave-kept
