use Rattle.ec_history.proofs.OfLaws.ForFormed.Renamed.{rename-fine}
use Rattle.ec_history.proofs.OfLaws.ForFormed.Planned.{call-fine}
use Rattle.ec_history.proofs.laws.formed_calls.calls_make_fitting_updates.Goals as goal

pub returns-clause-sound : goal.returns-clause-sound
returns-clause-sound c = λ v cl fresh u f gone bounded e. (call-fine v f (rename-fine v f) cl fresh gone u e).sound bounded

pub returns-clause-fits : goal.returns-clause-fits
returns-clause-fits c = λ v cl fresh u f gone e. (call-fine v f (rename-fine v f) cl fresh gone u e).fitting
