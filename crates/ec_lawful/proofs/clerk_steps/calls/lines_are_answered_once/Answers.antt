use Rattle.std.proofs.Common.{sym, subst, []}
use Rattle.ec_history.specs.Placing.{ArePlaceable}
use Rattle.ec_lawful.proofs.OfClerkSteps.ForCalls.Once.{once}
use Rattle.ec_lawful.proofs.clerk_steps.calls.lines_are_answered_once.Goals as goal

pub returns : goal.returns
returns z ss placeable before after l c cl a op whole = once before l c cl a op after (subst (ArePlaceable []) (sym whole) placeable)
