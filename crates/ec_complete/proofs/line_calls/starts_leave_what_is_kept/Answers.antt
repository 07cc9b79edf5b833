use Rattle.ec_complete.proofs.ForLines.Starts.{starts-leave-kept}
use Rattle.ec_complete.proofs.line_calls.starts_leave_what_is_kept.Goals as goal

pub returns : goal.returns
returns c = starts-leave-kept
