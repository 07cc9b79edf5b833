use Rattle.ec_history.proofs.OfLaws.ForFormed.KeptFormed.{kept-formed, kept-held}
use Rattle.ec_history.proofs.OfLaws.ForFormed.Laws.{kept-reached, call-sound, call-fits}
use Rattle.ec_history.proofs.OfLaws.ForFormed.Keeping.{throughout, whole, placed}
use Rattle.ec_history.proofs.laws.formed_histories.what_is_kept_is_well_formed.Goals as goal

pub returns-clause-throughout : goal.returns-clause-throughout
returns-clause-throughout c = λ base most h is. throughout kept-formed kept-reached call-sound call-fits kept-held base is most h

pub returns-clause-whole : goal.returns-clause-whole
returns-clause-whole c = λ base most h is. whole kept-formed kept-reached call-sound call-fits kept-held base is most h

pub returns-clause-placed : goal.returns-clause-placed
returns-clause-placed c = λ base most ss is. placed kept-formed kept-reached call-sound call-fits kept-held base is most ss
