use Rattle.std.proofs.Common.{not, rules}
use Rattle.std.proofs.lemmas.Fn.{filter_same}
use Rattle.ec_sessions.specs.OfRecall.Due.{is_told}
use Rattle.ec_sessions.proofs.recall.due.unheard.Goals as goal

pub returns : goal.returns
returns c = filter_same _ (λ holder. not (is_told c.args.told.now holder)) _ (λ x b f' k. search rules) _ _ c.retain.ensures.filtered
