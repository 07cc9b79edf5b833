use Rattle.ec_complete.proofs.OfAgreedLines.Lines.{call-within, push-within}
use Rattle.ec_complete.proofs.agreed_lines.agreed_closures.first_steps_stay_in_closures.Goals as goal

pub returns : goal.returns
returns c base v j w past = (call-within base v j w past, push-within base v j w past)
