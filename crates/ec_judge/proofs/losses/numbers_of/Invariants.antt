use Rattle.std.proofs.Common.{◌≡◌, take, map}
use Rattle.std.specs.List.{filter}
use Rattle.ec_history.specs.History.{of_start}
use Rattle.ec_judge.specs.Carried.{op_of}
use Rattle.ec_judge.proofs.losses.numbers_of.Given as goal

abbrev pub invariant-loop-kept : goal.invariant-loop-kept
invariant-loop-kept l = l.ops.items ≡ map (λ k. k.number) (filter (λ k. of_start l.clerk l.boot (op_of k)) (take l.kept-index l.kept))
