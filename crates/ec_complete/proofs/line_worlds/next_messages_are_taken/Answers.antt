use Rattle.ec_complete.proofs.ForLines.Taking.{can-take-next}
use Rattle.ec_complete.proofs.line_worlds.next_messages_are_taken.Goals as goal

pub returns : goal.returns
returns c = can-take-next
