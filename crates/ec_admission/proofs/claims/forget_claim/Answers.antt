use Rattle.std.proofs.Common.{not, ◌==◌, rules}
use Rattle.std.proofs.lemmas.Fn.{filter_same}
use Rattle.ec_admission.proofs.claims.forget_claim.Goals as goal

pub returns : goal.returns
returns c = filter_same _ (λ t. not (t == c.args.session)) _ (λ x b f' k. search rules) _ _ c.retain.ensures.filtered
