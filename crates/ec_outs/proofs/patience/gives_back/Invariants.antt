use Rattle.std.proofs.Common.{◌≡◌, drop}
use Rattle.ec_outs.specs.Outs.{sends}
use Rattle.ec_outs.specs.Patience as patience
use Rattle.ec_outs.proofs.patience.gives_back.Given as goal

abbrev pub invariant-loop-out : goal.invariant-loop-out
invariant-loop-out l = patience.gives_back l.fn.obj (sends l.outs) ≡ patience.gives_back l.fn.obj (sends (drop l.out-index l.outs))
