use Rattle.std.proofs.Common.{rules, ap, ◌∙◌}
use Rattle.std.specs.List.{filter}
use Rattle.std.proofs.lemmas.Fn.{filter_same}
use Rattle.ec_judge.specs.Carried.{is_noted}
use Rattle.ec_judge.proofs.rebuilt.noted_operands.Goals as goal

pub returns : goal.returns
returns c = filter_same _ (is_noted c.args.noted.now) _ (λ x b f' k. search rules) _ _ c.retain.ensures.filtered ∙ ap (filter (is_noted c.args.noted.now)) c.in_ok-objs.ensures
