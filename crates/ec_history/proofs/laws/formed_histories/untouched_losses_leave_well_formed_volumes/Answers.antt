use Rattle.ec_history.proofs.OfLaws.ForFormed.KeptFormed.{kept-formed, kept-held}
use Rattle.ec_history.proofs.OfLaws.ForFormed.Laws.{kept-reached, call-sound, call-fits}
use Rattle.ec_history.proofs.OfLaws.ForFormed.Keeping.{untouched}
use Rattle.ec_history.proofs.laws.formed_histories.untouched_losses_leave_well_formed_volumes.Goals as goal

pub returns : goal.returns
returns c = λ base most cl b ns past is. untouched kept-formed kept-reached call-sound call-fits kept-held base is most cl b ns past
