use Rattle.ec_clerk.proofs.AtOnce.{prompt}
use Rattle.ec_clerk.proofs.prompt.held_call_is_prompt.Goals as goal

pub returns : goal.returns
returns c = prompt
