use Rattle.std.proofs.Common.{◌≡◌, ◌-◌, length, take}
use Rattle.ec_outs.specs.Outs.{answers}
use Rattle.ec_outs.proofs.patience.less_answers.Given as goal

abbrev pub invariant-loop-out : goal.invariant-loop-out
invariant-loop-out l = l.left ≡ l.fn.losses - length (answers (take l.out-index l.outs))
