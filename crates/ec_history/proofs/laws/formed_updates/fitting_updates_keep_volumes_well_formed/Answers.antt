use Rattle.ec_history.proofs.OfLaws.ForFormed.KeptFormed.{kept-formed, kept-held}
use Rattle.ec_history.proofs.OfLaws.ForFormed.Laws.{kept-reached}
use Rattle.ec_history.proofs.laws.formed_updates.fitting_updates_keep_volumes_well_formed.Goals as goal

pub returns-clause-formed : goal.returns-clause-formed
returns-clause-formed c = kept-formed

pub returns-clause-held : goal.returns-clause-held
returns-clause-held c = kept-held

pub returns-clause-reached : goal.returns-clause-reached
returns-clause-reached c = kept-reached
