use Rattle.std.proofs.Common.{rules, not}
use Rattle.std.proofs.lemmas.Fn.{filter_same}
use Rattle.ec_volume.specs.Update.{member}
use Rattle.ec_watch.proofs.left.leave_out.Goals as goal

pub returns : goal.returns
returns c = filter_same _ (λ n. not (member n c.args.ops.now)) _ (λ x b f' k. search rules) _ _ c.retain.ensures.filtered
