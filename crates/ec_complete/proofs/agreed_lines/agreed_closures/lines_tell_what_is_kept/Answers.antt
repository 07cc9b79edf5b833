use Rattle.ec_complete.proofs.OfAgreedLines.Telling.{volume-told, works-told}
use Rattle.ec_complete.proofs.agreed_lines.agreed_closures.lines_tell_what_is_kept.Goals as goal

pub returns : goal.returns
returns c w g inv st = (volume-told w g inv st, works-told w g inv st)
