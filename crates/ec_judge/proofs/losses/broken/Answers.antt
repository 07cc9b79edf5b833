use Rattle.std.proofs.Common.{take, drop, length, ◌-◌}
use Rattle.ec_pending.specs.Pending.{numbers_in}
use Rattle.ec_judge.proofs.Tails.{marks-cut, cut-all}
use Rattle.ec_judge.specs.Carried.{touches_in}
use Rattle.ec_judge.proofs.losses.broken.Goals as goal

pub returns-clause-found : goal.returns-clause-found
returns-clause-found c =
    marks-cut c.args.named.now.clerk c.args.named.now.boot c.args.named.now.ops.now c.args.kept.now c.args.from c.requires.none (take (length c.args.kept.now - c.args.from) (drop c.args.from c.args.kept.now)) (cut-all c.args.kept.now c.args.from) (numbers_in c.args.start.now.pending.1) (touches_in c.args.touches.now) c.broken_in.result c.broken_in.ensures.found
