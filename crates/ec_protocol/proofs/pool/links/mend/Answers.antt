use Rattle.std.proofs.Common.{not, ◌==◌, rules}
use Rattle.std.proofs.lemmas.Fn.{filter_same}
use Rattle.ec_protocol.proofs.pool.links.mend.Goals as goal

pub returns : goal.returns
returns c = filter_same _ (λ d. not (d == c.args.clerk)) _ (λ x b f' k. search rules) _ _ c.retain.ensures.filtered
