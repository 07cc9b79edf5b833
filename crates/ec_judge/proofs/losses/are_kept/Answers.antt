use Rattle.std.proofs.Common.{◌∙◌}
use Rattle.ec_judge.proofs.Indexes.{all-own}
use Rattle.ec_judge.proofs.losses.are_kept.Goals as goal

pub returns : goal.returns
returns c = c.are_all_in.ensures ∙ all-own c.args.named.now.clerk c.args.named.now.boot c.args.kept.now c.in_ok-own.own c.args.named.now.ops.now (c.in_ok-own.ensures ∙ c.in_ok-numbers_of.ensures)
