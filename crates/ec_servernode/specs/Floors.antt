-- A server's floor is 0.
use Rattle.std.proofs.Common.{◌≤◌, List, arith}
use mathlib.Core.List.{IsPrefix}
use Rattle.ec_servernode.specs.declared.step.Step.{Step}

pub no_floor : (xs ys : List Step) → IsPrefix xs ys → 0 ≤ 0
no_floor xs ys p = omega arith
