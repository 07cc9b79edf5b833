use Rattle.ec_complete.proofs.ForLines.On.{calls-leave-kept}
use Rattle.ec_complete.proofs.line_calls.calls_leave_what_is_kept.Goals as goal

pub returns : goal.returns
returns c = calls-leave-kept
