use Rattle.std.proofs.Common.{◌≤◌, length, not, vec_len}
use Rattle.ec_judge.specs.Carried.{is_among}
use Rattle.ec_judge.proofs.Tails.{Taken}
use Rattle.ec_judge.proofs.losses.take_behind.Given as goal

abbrev pub invariant-back : goal.invariant-back
invariant-back l = Taken (λ k. not (is_among l.named.clerk l.named.boot l.named.ops.now k)) l.fn.kept.items l.kept.items l.left.items × (l.from ≤ length l.kept.items)

abbrev pub decreases-back : goal.decreases-back
decreases-back l = vec_len l.kept
