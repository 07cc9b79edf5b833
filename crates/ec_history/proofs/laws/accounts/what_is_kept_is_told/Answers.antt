use Rattle.ec_history.proofs.OfLaws.Telling.{kept-told}
use Rattle.ec_history.proofs.laws.accounts.what_is_kept_is_told.Goals as goal

pub returns : goal.returns
returns c base most ss legal t = kept-told base most ss legal t
