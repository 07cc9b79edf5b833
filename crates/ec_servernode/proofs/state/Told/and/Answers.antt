use Rattle.std.proofs.Common.{◌==◌, ◌||◌, ap, ◌∙◌}
use Rattle.ec_servernode.specs.Told.{tells}
use Rattle.ec_servernode.proofs.Tells.{set_bit}
use Rattle.ec_servernode.proofs.state.Told.and.Goals as goal

pub returns : goal.returns
returns c k = set_bit c.args.self.clerks c.get.result k c.get.ensures.below ∙ ap (λ d. tells c.args.self k || (d == k)) c.get.ensures.value
