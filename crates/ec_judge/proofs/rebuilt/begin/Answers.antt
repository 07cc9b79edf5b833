use Rattle.ec_volume.specs.Volume.{images}
use Rattle.ec_judge.proofs.Prefixes.{behind-kept}
use Rattle.ec_judge.proofs.rebuilt.begin.Goals as goal

pub returns-then-firm-kept-clause-behind : goal.returns-then-firm-kept-clause-behind
returns-then-firm-kept-clause-behind c = behind-kept c.args.named.now.clerk c.args.named.now.boot c.args.named.now.ops.now c.args.kept.now c.args.from c.args.firm.now.count (images c.args.firm.now.volume.under) c.requires.firm c.if-firm-from.true c.requires.none

pub returns-else-firm-kept-clause-behind : goal.returns-else-firm-kept-clause-behind
returns-else-firm-kept-clause-behind c = behind-kept c.args.named.now.clerk c.args.named.now.boot c.args.named.now.ops.now c.args.kept.now c.args.from c.args.firm.now.count (images c.args.firm.now.volume.under) c.requires.firm c.if-firm-from.true c.requires.none
