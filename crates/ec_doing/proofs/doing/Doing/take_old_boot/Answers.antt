use Rattle.std.proofs.Common.{sym, ◌∙◌}
use Rattle.ec_doing.proofs.Steps.{old_boot_told}
use Rattle.ec_doing.proofs.doing.Doing.take_old_boot.Goals as goal

pub returns-in_ok-emit : goal.returns-in_ok-emit
returns-in_ok-emit c = λ ws. old_boot_told ws c.args.self.now c.args.asked c.args.greatest _ (sym c.same_age.ensures ∙ c.if-same_age.true) (c.in_ok-emit.ensures ws)
