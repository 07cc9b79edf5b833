use Rattle.ec_history.proofs.OfLaws.ForFormed.KeptFormed.{kept-formed, kept-held}
use Rattle.ec_history.proofs.OfLaws.ForFormed.Laws.{kept-reached, call-sound, call-fits}
use Rattle.ec_history.proofs.OfLaws.ForFormed.Keeping.{gone}
use Rattle.ec_history.proofs.laws.formed_histories.fresh_ids_are_gone.Goals as goal

pub returns : goal.returns
returns c = λ base most h e is. gone kept-formed kept-reached call-sound call-fits kept-held base is most h e
