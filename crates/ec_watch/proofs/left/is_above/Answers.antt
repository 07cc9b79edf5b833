use Rattle.std.proofs.Common.{rules}
use Rattle.ec_watch.proofs.Remaining.{put-tested}
use Rattle.ec_watch.proofs.left.is_above.Goals as goal

pub returns-in-Some : goal.returns-in-Some
returns-in-Some c = put-tested c.args.op c.last-in-Some.inside.0 c.op.inside.0 c.args.rising.now c.items.result.now c.in-Some.field-0.now c.items.ensures.value c.items.ensures.sorted c.in-Some.ensures.value (search rules) (search rules)
