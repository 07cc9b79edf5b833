use Rattle.ec_lawful.proofs.OfClerkLaws.Prompt.{prompts}
use Rattle.ec_lawful.proofs.clerk_laws.held_calls_are_prompt.Goals as goal

pub returns : goal.returns
returns c = prompts
