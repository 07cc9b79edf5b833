use Rattle.std.proofs.Common.{◌+◌, arith, ap, ◌∙◌}
use Rattle.ec_log.specs.OfChains.Held.{is_behind}
use Rattle.ec_log.specs.LogOrder.{is_from}
use Rattle.ec_log.proofs.Logs.{behind_more, from_more}
use Rattle.ec_log.proofs.log.Log.issue.Goals as goal

pub invariant_of-self-2 : goal.invariant_of-self-2
invariant_of-self-2 c = (
  omega (arith, c.self.invariant.0),
  ap (is_from c.self.inside.first) c.in_ok-hold.ensures.ok ∙ from_more c.self.inside.first c.self.inside.next c.args.update c.self.inside.undurable c.self.invariant.0 c.self.invariant.1,
  ap (is_behind (c.self.inside.next + 1)) c.in_ok-hold.ensures.ok ∙ behind_more c.self.inside.next c.args.update c.self.inside.undurable c.self.invariant.2,
  c.self.invariant.3,
)
