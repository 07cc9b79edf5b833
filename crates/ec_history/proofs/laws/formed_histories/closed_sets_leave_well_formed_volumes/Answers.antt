use Rattle.ec_history.proofs.OfLaws.ForFormed.KeptFormed.{kept-formed, kept-held}
use Rattle.ec_history.proofs.OfLaws.ForFormed.Laws.{kept-reached, call-sound, call-fits}
use Rattle.ec_history.proofs.OfLaws.ForFormed.Keeping.{part, rest}
use Rattle.ec_history.proofs.laws.formed_histories.closed_sets_leave_well_formed_volumes.Goals as goal

pub returns-clause-part : goal.returns-clause-part
returns-clause-part c = λ base inside ks is. part kept-formed kept-reached call-sound call-fits kept-held base is inside ks

pub returns-clause-rest : goal.returns-clause-rest
returns-clause-rest c = λ base lost ks is. rest kept-formed kept-reached call-sound call-fits kept-held base is lost ks
