use Rattle.std.proofs.Common.{ap, ◌∙◌}
use Rattle.std.specs.Prelude.{filter}
use Rattle.ec_log.specs.OfChains.Held.{first_number}
use Rattle.ec_log.specs.OfChains.Walk.{passes}
use Rattle.ec_log.proofs.Logs.{asked_first}
use Rattle.ec_log.proofs.asked.first_asked.Goals as goal

pub returns : goal.returns
returns c = c.first.ensures ∙ ap (λ a. first_number (filter (passes a) c.args.undurable.now)) c.ask_of.ensures ∙ asked_first c.args.asked c.args.undurable.now
