use Rattle.std.proofs.Common.{◌≡◌, drop}
use Rattle.ec_outs.specs.Outs.{sends}
use Rattle.ec_outs.specs.Patience.{is_loss, some_again}
use Rattle.ec_outs.proofs.patience.loss_in.Given as goal

abbrev pub invariant-loop-out : goal.invariant-loop-out
invariant-loop-out l = is_loss l.outs ≡ some_again (sends l.outs) (sends (drop l.out-index l.outs))
