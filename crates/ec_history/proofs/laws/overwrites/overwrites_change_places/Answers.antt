use Rattle.ec_history.proofs.OfLaws.ForPlacing.Overwriting.{effects-commute, fit-both}
use Rattle.ec_history.proofs.OfLaws.ForPlacing.Ranges.{ranges-commute}
use Rattle.ec_history.proofs.laws.overwrites.overwrites_change_places.Goals as goal

pub returns-clause-effects : goal.returns-clause-effects
returns-clause-effects c = effects-commute

pub returns-clause-fit : goal.returns-clause-fit
returns-clause-fit c = fit-both

pub returns-clause-bytes : goal.returns-clause-bytes
returns-clause-bytes c = ranges-commute
