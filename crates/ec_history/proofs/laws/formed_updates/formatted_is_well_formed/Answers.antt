use Rattle.ec_history.proofs.OfLaws.ForFormed.Formatted.{formatted-formed, formatted-reached, formatted-held}
use Rattle.ec_history.proofs.laws.formed_updates.formatted_is_well_formed.Goals as goal

pub returns-clause-formed : goal.returns-clause-formed
returns-clause-formed c = formatted-formed

pub returns-clause-reached : goal.returns-clause-reached
returns-clause-reached c = formatted-reached

pub returns-clause-held : goal.returns-clause-held
returns-clause-held c = formatted-held
